-- The bodies on a disk that was stopped during a put.
use Rattle.std.specs.Prelude.{◌≡◌, ◌≢◌, ℕ, ◌<◌, List, [], ◌∷◌, ◌++◌, length, take, Some, IfSome, slice_index, nat_le, ◌==◌, ◌||◌, ◌&&◌, if◌then◌else◌}
use Rattle.crsm_port_image.specs.Calls.{History, contents}
use Rattle.crsm_port_image.specs.Image.{image_of}
use Rattle.crsm_log.specs.Format.{reading, found, bodies_of, cluster_of, gate_in, items_of}
use Rattle.crsm_log.specs.Log.{recorded, put_calls}

-- A body is kept if all four calls were made, or three and the fill is the byte of an open gate.
abbrev pub kept : ℕ → ℕ → List (List ℕ) → List ℕ → List (List ℕ)
kept made fill bodies body = if nat_le 4 made || (made == 3 && fill == 1) then bodies ++ body ∷ [] else bodies

-- the image of a disk stopped after `made` calls of a put on this history holds these bodies
abbrev pub StopKeeps : History → ℕ → List ℕ → ℕ → ℕ → Type 0
StopKeeps h end body made fill =
    IfSome (recorded (take made (put_calls end body)) (Some h)) (λ g. reading (image_of g.first g.calls fill) ≡ found (kept made fill (bodies_of (contents h.first h.calls)) body))

-- the file is whole, and its closed gate is at this offset
pub record IsWhole (file : List ℕ) (end : ℕ) : Type 0 where
  pub whole : reading file ≡ found (bodies_of file)
  pub place : end ≡ gate_in file
  pub inside : end < length file
  pub shut : slice_index file end ≢ 1

-- with these bytes behind it a file is read as without, and its closed gate is at this offset
pub record ReadsWith (file behind : List ℕ) (end : ℕ) : Type 0 where
  pub entries : items_of (file ++ behind) ≡ items_of file
  pub bodies : reading (file ++ behind) ≡ reading file
  pub cluster : cluster_of (file ++ behind) ≡ cluster_of file
  pub whole : IsWhole (file ++ behind) end

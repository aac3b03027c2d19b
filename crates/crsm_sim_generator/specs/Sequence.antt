-- The sequence of numbers by which all choices are made.
use Rattle.std.specs.Prelude.{ℕ, zero, suc, ◌+◌, ◌*◌, ◌/◌, ◌%◌, ◌^◌}

-- the number behind x
unfoldable pub next_number : ℕ → ℕ
next_number x = (x * 6364136223846793005 + 1442695040888963407) % 2 ^ 64

-- the number i places behind x
unfoldable pub later : ℕ → ℕ → ℕ
later x zero = x
later x (suc i) = next_number (later x i)

-- draw i behind x, counted from 0: a number below k
unfoldable pub draw : (x i k : ℕ) → ℕ
draw x i k = later x (i + 1) / 2 ^ 33 % k

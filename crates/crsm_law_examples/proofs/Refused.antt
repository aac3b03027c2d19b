-- Acts that are not possible, and the reason: that an act has no meaning here comes before every other reason.
use Rattle.std.proofs.Common.{◌≡◌, List, [], ◌∷◌, refl}
use Rattle.std.specs.Prelude.{None, Some}
use Rattle.crsm_spec.specs.Acts.{Act, Single, Bad}
use Rattle.crsm_mpspec.specs.Possible.{Cause}
use Rattle.crsm_law_examples.specs.LeaderWords.{refused}
use Rattle.crsm_law_examples.proofs.LeaderOpened.{the_model}

-- one replica that has asked for nothing
abbrev start : List Act
start = Act.One (Single.Tick 0 5) ∷ []

junk_at_no_replica : refused 1 start (Act.One (Single.Junk 9 5 (255 ∷ []))) ≡ Some Cause.NotHere
unfolding the_model
junk_at_no_replica = refl

batch_of_nothing_sent : refused 1 start (Act.Batch 5 (0 ∷ [])) ≡ Some Cause.NotHere
unfolding the_model
batch_of_nothing_sent = refl

stop_at_a_call : refused 1 start (Act.CutAt 3 1 (Single.Tick 0 5)) ≡ Some Cause.NotHere
unfolding the_model
stop_at_a_call = refl

stop_of_junk : refused 1 start (Act.CutKept 1 (Single.Junk 0 5 (255 ∷ []))) ≡ Some Cause.NotHere
unfolding the_model
stop_of_junk = refl

new_replica : refused 1 start (Act.Start 1) ≡ Some (Cause.Met Bad.NoSuchReplica)
unfolding the_model
new_replica = refl

up_already : refused 1 start (Act.Start 0) ≡ Some (Cause.Met Bad.IsUp)
unfolding the_model
up_already = refl

too_few : refused 3 start (Act.One (Single.Suspect 0 5 (0 ∷ []))) ≡ Some (Cause.Met Bad.TooFew)
unfolding the_model
too_few = refl

no_such_member : refused 3 start (Act.One (Single.Suspect 0 5 (3 ∷ []))) ≡ Some (Cause.Met Bad.NoSuchReplica)
unfolding the_model
no_such_member = refl

not_sent : refused 3 start (Act.Lose 2) ≡ Some (Cause.Met Bad.NoSuchDatagram)
unfolding the_model
not_sent = refl

not_used : refused 3 start (Act.One (Single.Again 1 5)) ≡ Some (Cause.Met Bad.Fresh)
unfolding the_model
not_used = refl

fresh_and_up : refused 3 start (Act.One (Single.Go 1 5)) ≡ None
unfolding the_model
fresh_and_up = refl

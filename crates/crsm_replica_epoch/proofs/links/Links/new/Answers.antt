use Rattle.std.proofs.Common.{refl, [], ◌∷◌}
use Rattle.std.specs.List.{AllByRecursion}
use Rattle.crsm_replica_epoch.proofs.Linking.{IsNew, all_new}
use Rattle.crsm_replica_epoch.proofs.links.Links.new.Goals as goal

pub returns : goal.returns
returns c r pushed acked taken =
    let all : AllByRecursion IsNew (c.new.result ∷ c.new-2.result ∷ c.new-3.result ∷ c.new-4.result ∷ c.new-5.result ∷ c.new-6.result ∷ c.new-7.result ∷ c.new-8.result ∷ c.new-9.result ∷ c.new-10.result ∷ c.new-11.result ∷ c.new-12.result ∷ c.new-13.result ∷ c.new-14.result ∷ c.new-15.result ∷ []) =
    ((c.new.ensures.sent, c.new.ensures.next), ((c.new-2.ensures.sent, c.new-2.ensures.next), ((c.new-3.ensures.sent, c.new-3.ensures.next), ((c.new-4.ensures.sent, c.new-4.ensures.next), ((c.new-5.ensures.sent, c.new-5.ensures.next), ((c.new-6.ensures.sent, c.new-6.ensures.next), ((c.new-7.ensures.sent, c.new-7.ensures.next), ((c.new-8.ensures.sent, c.new-8.ensures.next), ((c.new-9.ensures.sent, c.new-9.ensures.next), ((c.new-10.ensures.sent, c.new-10.ensures.next), ((c.new-11.ensures.sent, c.new-11.ensures.next), ((c.new-12.ensures.sent, c.new-12.ensures.next), ((c.new-13.ensures.sent, c.new-13.ensures.next), ((c.new-14.ensures.sent, c.new-14.ensures.next), ((c.new-15.ensures.sent, c.new-15.ensures.next), tt))))))))))))))) in
    record { count = refl; each = all_new (c.new.result ∷ c.new-2.result ∷ c.new-3.result ∷ c.new-4.result ∷ c.new-5.result ∷ c.new-6.result ∷ c.new-7.result ∷ c.new-8.result ∷ c.new-9.result ∷ c.new-10.result ∷ c.new-11.result ∷ c.new-12.result ∷ c.new-13.result ∷ c.new-14.result ∷ c.new-15.result ∷ []) r refl pushed acked taken all }

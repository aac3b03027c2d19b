-- Running out of memory before any work is an exact result of every task.
use Rattle.std.proofs.Common.{ℕ, List, Option, inr, refl}
use Rattle.crsm_audit.specs.Exactly.{IsDecided}
use Rattle.crsm_delay.specs.Reading.{plans_of}
use Rattle.crsm_delay.specs.declared.handling.Wanted.{Wanted}
use Rattle.crsm_port_lines.specs.Exact.{Exact}
use Rattle.crsm_text_words.specs.declared.order.Task.{Task}
use Rattle.crsm_text_words.specs.declared.order.Task.TheVariants.{Show, Replay, ReplayNode, Node, Client, Operate, Soak, Audit, Lock, Delay, DelayTimes, ReplayMp, Dump}
use Rattle.crsm_app.specs.Devices.{Devices}
use Rattle.crsm_app.specs.Exact.{Exactly, PlansExactly}
use Rattle.crsm_app.specs.declared.status.Status.{Status}
use Rattle.crsm_app.proofs.Sheets.{no_memory}

module _ (decided : (wanted : Wanted) → Exact (plans_of wanted)) (audits : (n : ℕ) → IsDecided n) where
  plan_unread : (wanted : Wanted) (left : Option (List ℕ)) → PlansExactly wanted left Status.NoMemory
  plan_unread wanted left = record {
    decided = decided wanted;
    complete = λ lines fit may are is short. inr refl;
    refused = λ lines shown text more why fit are is bad short. inr refl;
    too_long = λ lines rest more fit are part long some is. inr refl;
  }

  pub without_memory : (cluster : ℕ) (task : Task) (old new : Devices) → Exactly cluster task Status.NoMemory old new
  without_memory cluster (Show text) old new = λ no_write. inr refl
  without_memory cluster Replay old new = λ no_read no_write. record {
    complete = λ s good is short. inr refl;
    refused = λ read text more cause good is bad short. inr refl;
    too_long = λ read rest more good lacks short long some is. inr refl;
  }
  without_memory cluster (ReplayNode me n) old new = λ no_read no_write. record {
    complete = λ lines fit short sheet is within. inr refl;
    refused = λ lines shown text more cause is short left bad within. no_memory _ cause _ refl;
    too_long = λ lines shown rest more is short part long some left. inr refl;
  }
  without_memory cluster (Client to turns command) old new = record {
    complete = λ t u is at took no_fault no_loss no_write. inr refl;
    no_answer = λ t u is at none no_fault no_loss. inr refl;
  }
  without_memory cluster (Operate to members) old new = λ no_loss. inr refl
  without_memory cluster (Node t) old new = λ no_port no_disk no_write. tt
  without_memory cluster (Soak number n steps) old new = λ no_write. inr refl
  without_memory cluster (Audit n) old new = λ no_read no_write. record {
    decided = (audits n).exact;
    unreadable = (audits n).unreadable;
    complete = λ lines fit may are is short. inr refl;
    refused = λ lines shown text more why fit are is bad short. no_memory _ _ _ refl;
    too_long = λ lines rest more fit are part long some is. inr refl;
  }
  without_memory cluster (Lock t) old new = record {
    complete = λ t u is at all no_fault no_loss no_write. inr refl;
    no_answer = λ t u is at none no_fault no_loss. inr refl;
  }
  without_memory cluster Delay old new = λ no_read no_write. plan_unread Wanted.Schedule old.left
  without_memory cluster DelayTimes old new = λ no_read no_write. plan_unread Wanted.Times old.left
  without_memory cluster ReplayMp old new = λ no_read no_write. record {
    complete = λ s good is short. inr refl;
    refused = λ read text more cause good is bad short. inr refl;
    too_long = λ read rest more good lacks short long some is. inr refl;
  }
  without_memory cluster (Dump me n part) old new = λ no_read no_write. record {
    complete = λ file text is short dump. inr refl;
    refused = λ file entry why is short bad. inr refl;
    too_long = λ file is long. inr refl;
  }

-- A handler of which nothing is said.
use Rattle.crsm_port_lines.specs.Handling.{Handling}

abbrev pub any : {H R : Type 0} → Handling H R
any = record {
  after = λ _ _ _. Unit {0};
  refuses = λ _ _ _ _. Unit {0};
  ends = λ _ _ _. Unit {0};
  refuses_end = λ _ _ _. Unit {0};
}

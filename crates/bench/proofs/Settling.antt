-- A ticket that is taken: it is the one that is out, and the report is told.
use Rattle.std.proofs.Common.{◌≡◌, ℕ, ◌≤◌, true, false, cond, not, nat_eq, List, length, Some, Ok, Err, Option, refl, sym, ap, ap₂, ◌∙◌, eq-eqb}
use Rattle.std.specs.Option.{option_map, option_eq}
use Rattle.std.proofs.lemmas.Bool.{eqb-true, not-false, le-ltb}
use Rattle.master.specs.declared.phase.Phase.{Phase}
use Rattle.master.specs.declared.phase.Phase.TheVariants.{Idle, Open, Over}
use Rattle.master.specs.States as master
use Rattle.master.specs.States.{ending_in, number_unless_idle, uncleared}
use Rattle.master.specs.Calls.{give_up_in, give_up}
use Rattle.report.specs.declared.refusal.SettleRefusal.TheVariants.{ShortBuffer}
use Rattle.report.specs.declared.report.Report.{Report}
use Rattle.report.specs.Reports.{report_of}
use Rattle.bench.specs.Model.States.{State}
use Rattle.bench.specs.Model.Calls.{report_out, filled, settled, settle_answer, settle_buffer}

-- the report of a transfer as it is in a master
abbrev report_in : master.State → Option Report
report_in t = option_map (λ e. report_of t.direction t.multiplexor e (length t.value)) (ending_in t.phase)

-- giving up leaves what is reported beside the ending
given_up : (s : master.State) (p : Phase) → report_in (give_up_in s p).next ≡ option_map (λ e. report_of s.direction s.multiplexor e (length s.value)) (ending_in (give_up_in s p).next.phase)
given_up s Idle = refl
given_up s (Open a) = refl
given_up s (Over e) = refl

given_up_value : (s : master.State) (p : Phase) → (give_up_in s p).next.value ≡ s.value
given_up_value s Idle = refl
given_up_value s (Open a) = refl
given_up_value s (Over e) = refl

-- the buffer is filled by what is told and by the value, which giving up leaves
pub filled_back : (s : State) (k : ℕ) (buffer after v : List ℕ) (t : master.State) (r : Report) → Ok r ≡ settle_answer k buffer s → t ≡ (give_up s.master).next → v ≡ t.value → after ≡ filled (Ok r) v buffer → after ≡ settle_buffer k buffer s
filled_back s k buffer after v t r answer parted value is = is ∙ ap₂ (λ r v. filled r v buffer) answer (value ∙ ap (λ (t : master.State). t.value) parted ∙ given_up_value s.master s.master.phase)

-- a number that is not other than that of the transfer which is not cleared
own_number : (p : Phase) (n k : ℕ) → false ≡ not (option_eq nat_eq (number_unless_idle p n) (Some k)) → k ≡ n
own_number Idle n k e = cc
own_number (Open w) n k e = sym (eqb-true n k (not-false (nat_eq n k) (sym e)))
own_number (Over w) n k e = sym (eqb-true n k (not-false (nat_eq n k) (sym e)))

pub taken_back : (s : State) (k : ℕ) (buffer : List ℕ) (t : master.State) (r : Report) → false ≡ not (option_eq nat_eq (uncleared s.master) (Some k)) → 1024 ≤ length buffer → t ≡ (give_up s.master).next → Some r ≡ report_in t → Ok r ≡ settle_answer k buffer s
taken_back s k buffer t r own room parted told =
    let is_own = eq-eqb k s.master.begun (own_number s.master.phase s.master.begun k own) in
    let long = le-ltb (length buffer) 1024 room in
    let tells : Some r ≡ report_out s = told ∙ ap report_in parted ∙ given_up s.master s.master.phase in
    let answers : settled true buffer (Some r) ≡ settle_answer k buffer s = ap (settled true buffer) tells ∙ ap (λ b. settled b buffer (report_out s)) (sym is_own) in
    sym (ap (λ b. cond b (Err ShortBuffer) (Ok r)) long) ∙ answers

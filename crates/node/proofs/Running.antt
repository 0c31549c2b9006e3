-- Slots by number.
--   slots_done, slots_denied   the two outcomes
--   slots_done_by, slots_denied_by   the same with the amounts of the slots
--   run_at            the same run under another count
use Rattle.std.proofs.Common.{◌≡◌, ℕ, List, [], length, Some, None, sym, subst}
use Rattle.model.specs.declared.refusal.Refusal.{Refusal}
use Rattle.model.specs.declared.state.State.{State}
use Rattle.model.specs.Setups.{Setup}
use Rattle.model.specs.Orders.{slots_refusal, Run, Slotted, done, denied}
use Rattle.model.specs.Amounts.{RunBy, SlottedBy, done_by, denied_by}

module _ (n : Setup) (promise : ℕ) where
  pub slots_done : (s : State) (count : ℕ) (t : State) → None ≡ slots_refusal n promise s count → Run n promise count s t →
      Slotted n promise count s None t
  slots_done s count t e run = done t (sym e) run

  pub slots_denied : (s : State) (count : ℕ) (r : Refusal) → Some r ≡ slots_refusal n promise s count → Slotted n promise count s (Some r) s
  slots_denied s count r e = denied r (sym e)

  pub slots_done_by : (s : State) (count : ℕ) (amounts : List ℕ) (t : State) → None ≡ slots_refusal n promise s count → length amounts ≡ count →
      RunBy n promise s amounts t → SlottedBy n promise count s None amounts t
  slots_done_by s count amounts t e many run = done_by amounts t (sym e) many run

  pub slots_denied_by : (s : State) (count : ℕ) (r : Refusal) → Some r ≡ slots_refusal n promise s count → SlottedBy n promise count s (Some r) [] s
  slots_denied_by s count r e = denied_by r (sym e)

  pub run_at : (k j : ℕ) (s t : State) → k ≡ j → Run n promise k s t → Run n promise j s t
  run_at k j s t e run = subst (λ x. Run n promise x s t) e run

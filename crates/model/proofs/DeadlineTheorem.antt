-- The deadline theorem, put together from its two halves over the slot as it is defined.
use Rattle.std.proofs.Common.{ℕ, ◌<◌, ◌≤◌, length, Some, ap, ⊎_elim, arith}
use Rattle.std.proofs.lemmas.List.{get_or_past}
use Rattle.std.proofs.lemmas.Bool.{cases_lt}
use Rattle.model.specs.declared.state.State.{State}
use Rattle.model.specs.Laws.{SafeBound}
use Rattle.model.specs.Tasks.{no_task}
use Rattle.model.specs.Setups.{Setup, gain, LawfulSetup}
use Rattle.model.specs.Slots.{slot_step}
use Rattle.model.specs.OnTime.{NeverLate, Exact, WithinBounds, DeadlineTheorem}
use Rattle.model.proofs.Rule.{Rule}
use Rattle.model.proofs.Searches.{present_fits}
use Rattle.model.proofs.SlotRule.{rule_of_slot}
use Rattle.model.proofs.Reaching.{reached}
use Rattle.model.proofs.Soundness.{sound}
use Rattle.model.proofs.Responses.{responses_within}
use Rattle.model.proofs.NeverLate.{never_late, young}
use Rattle.model.proofs.OnTimeAccepted.{on_time_accepted}

module _ (n : Setup) (lawful : LawfulSetup n) where
  rule : (s : State) (h : ℕ) → gain n ≤ h → Rule n s h (slot_step n s h)
  rule = rule_of_slot n

  pub accepted_never_late : NeverLate n
  accepted_never_late accepted promise s history =
      never_late n lawful rule (sound n lawful) accepted promise s (reached n promise s history)

  pub one_sided_exact : Exact n
  one_sided_exact side = (
    accepted_never_late,
    on_time_accepted n lawful rule (λ promise s history. sound n lawful promise s (reached n promise s history)) side,
  )

  -- only a task of the table has a safe bound
  listed : (index bound : ℕ) → SafeBound (gain n) n.tasks index (Some bound) → index < length n.tasks
  listed index bound safe =
      ⊎_elim (λ within. within)
      (λ past. absurd (omega (arith, safe.0, safe.1, ap (λ t. t.deadline) (get_or_past n.tasks index no_task past))))
      (cases_lt index (length n.tasks))

  pub accepted_within_bounds : WithinBounds n
  accepted_within_bounds accepted promise s history index bound safe =
      responses_within n lawful index bound
      (young n lawful rule (sound n lawful) accepted index bound (listed index bound safe) (present_fits (gain n) n.tasks index bound safe))
      promise s (reached n promise s history)

pub deadline_theorem : DeadlineTheorem
deadline_theorem n lawful = (accepted_never_late n lawful, one_sided_exact n lawful, accepted_within_bounds n lawful)

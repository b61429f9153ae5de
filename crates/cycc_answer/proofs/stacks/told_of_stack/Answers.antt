use Rattle.std.proofs.Common.{◌≡◌, ◌⊎◌, ◌∙◌, ℕ, Bool, true, false, inl, inr, if◌then◌else◌}
use Rattle.cycc_answer.specs.Statuses.{stack_status}
use Rattle.cycc_answer.proofs.stacks.told_of_stack.Goals as goal

-- what is printed has the status of what was found, or the writer failed
shown : (succeeded : Bool) (status own found : ℕ) → status ≡ (if succeeded then own else 6) → own ≡ found → (status ≡ found) ⊎ (status ≡ 6)
shown true status own found is same = inl (is ∙ same)
shown false status own found is same = inr is

pub returns-in_ok-lines-in-Ok-clause-told : goal.returns-in_ok-lines-in-Ok-clause-told
returns-in_ok-lines-in-Ok-clause-told g c = inl (record {
  stack = c.in-Ok.found;
  is = c.in-Ok.ensures.needs;
  shown = shown c.is_ok-succeeded.result c.status_of_print.result c.status_of_stack-status.result (stack_status c.in-Ok.found.recursion)
      c.status_of_print.ensures c.status_of_stack-status.ensures;
})

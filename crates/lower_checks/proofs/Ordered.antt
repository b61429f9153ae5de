-- Numbers that are put in order, one part after another.
use Rattle.std.proofs.Common.{◌≡◌, ◌∙◌, ◌+◌, ◌-◌, ◌^◌, ◌≤◌, ℕ, min, arith, sym, ap, List, ◌++◌, append_assoc}
use Rattle.lower_checks.specs.Ordering.{AreLeft, IsOrdered}
use Rattle.lower_checks.specs.declared.order.Order.{Order}

-- what is put behind is no longer left
pub left_behind : (a b e last : Order) (all left here others : List ℕ) (result next : ℕ) → AreLeft a b all left → IsOrdered b e here result next
    → last ≡ e → left ≡ here ++ others → AreLeft a last all others
left_behind a b e last all left here others result next before put last_is left_is = record {
  sound = before.sound;
  numbers =
      ap (λ (x : Order). x.numbers.items ++ others) last_is ∙ ap (λ (x : List ℕ). x ++ others) put.numbers
      ∙ append_assoc b.numbers.items here others ∙ ap (λ (x : List ℕ). b.numbers.items ++ x) (sym left_is) ∙ before.numbers;
}

-- where the numbers of the last part begin that isn't put in order yet: so many before where they end, up to the greatest usize
pub count_before : (first others here count at result : ℕ) → at ≡ first + (others + here) → count ≡ min here (2 ^ 64 - 1) → at ≤ 2 ^ 64 - 1
    → result ≡ at - count → result ≡ first + others
count_before first others here count at result at_is count_is fits is = omega arith

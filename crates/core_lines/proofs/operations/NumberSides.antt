-- A comparison with a number has a register on one side, and x7 on the other.
use Rattle.std.proofs.Common.{◌≡◌, ℕ, ◌⊎◌, inl, inr, Option, Some, None, sym, ap}
use Rattle.std.proofs.lemmas.Option.{same_Some}
use Rattle.core_lines.specs.declared.comparison.Condition.{Condition}
use Rattle.core_lines.specs.declared.comparison.NumberComparison.{NumberComparison}
use Rattle.core_lines.specs.Held.{numbered_by}

pub record SecondIs (k : Condition) (left second : Option ℕ) (n : NumberComparison) : Type 0 where
  pub side : left ≡ Some n.comparison.left
  pub number : second ≡ Some n.number
  pub seven : n.comparison.right ≡ 7
  pub condition : k ≡ n.comparison.condition

pub record FirstIs (k : Condition) (first right : Option ℕ) (n : NumberComparison) : Type 0 where
  pub side : right ≡ Some n.comparison.right
  pub number : first ≡ Some n.number
  pub seven : n.comparison.left ≡ 7
  pub condition : k ≡ n.comparison.condition

pub numbered_found : (k : Condition) (l f r g : Option ℕ) (n : NumberComparison) → numbered_by k l f r g ≡ Some n → SecondIs k l g n ⊎ FirstIs k f r n
numbered_found k (Some l) f r None n e = absurd (cc (e))
numbered_found k (Some l) f r (Some g) n e =
    let same = same_Some (record { comparison = record { condition = k; left = l; right = 7 }; number = g }) n e in
    inl (record {
      side = ap (λ (d : NumberComparison). Some d.comparison.left) same;
      number = ap (λ (d : NumberComparison). Some d.number) same;
      seven = sym (ap (λ (d : NumberComparison). d.comparison.right) same);
      condition = ap (λ (d : NumberComparison). d.comparison.condition) same;
    })
numbered_found k None None r g n e = absurd (cc (e))
numbered_found k None (Some f) None g n e = absurd (cc (e))
numbered_found k None (Some f) (Some r) g n e =
    let same = same_Some (record { comparison = record { condition = k; left = 7; right = r }; number = f }) n e in
    inr (record {
      side = ap (λ (d : NumberComparison). Some d.comparison.right) same;
      number = ap (λ (d : NumberComparison). Some d.number) same;
      seven = sym (ap (λ (d : NumberComparison). d.comparison.left) same);
      condition = ap (λ (d : NumberComparison). d.comparison.condition) same;
    })

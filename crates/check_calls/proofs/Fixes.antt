-- What region variables are fixed to, one fit after another.
use Rattle.std.specs.Prelude.{is_some, min, nat_eq, option_map, ◌&&◌, ◌+◌, ◌++◌, if◌then◌else◌}
use Rattle.std.proofs.Common.{◌≡◌, ◌<◌, ◌≤◌, ℕ, zero, suc, Bool, true, false, Option, Some, None}
use Rattle.std.proofs.Common.{List, [], ◌∷◌, refl, sym, ◌∙◌, ap, arith, drop, get_or, length, set, true≢false}
use Rattle.source_typing.specs.Fixing.{Fit, first_fit, fit, is_found}
use Rattle.source_typing.specs.Regions.{Level, TheHeap, same_id}
use Rattle.source_typing.specs.Written.{Found}
use Rattle.check_calls.specs.Fixings.{
  Fixing,
  first_fixing,
  fixed_with,
  fixing,
  fixing_of,
  fixings_of,
  found_of,
  noted,
  of_fit,
  or_else,
}
use Rattle.check_calls.specs.declared.fixing.Fixed.{Fixed}
use Rattle.check_calls.specs.declared.fixing.Fixed.TheVariants as region
use Rattle.check_calls.specs.declared.fixing.Fixing as code
use Rattle.check_calls.proofs.Paired.{next_given, past}

-- ---- some fits, and then others

or_else_joined : (a b c : Option Fixing) → or_else (or_else a b) c ≡ or_else a (or_else b c)
or_else_joined None b c = refl
or_else_joined (Some x) b c = refl

or_none : (a : Option Fixing) → or_else a None ≡ a
or_none None = refl
or_none (Some x) = refl

pub first_both : (fs gs : List Fit) (k : ℕ) → first_fixing (fs ++ gs) k ≡ or_else (first_fixing fs k) (first_fixing gs k)
first_both [] gs k = refl
first_both (f ∷ fs) gs k = by (first_both fs gs k) (same_id f.of (Level k) && is_found f.is)
  where
    by : first_fixing (fs ++ gs) k ≡ or_else (first_fixing fs k) (first_fixing gs k)
        → (b : Bool) → option_map of_fit (if b then Some f else first_fit (fs ++ gs) k)
        ≡ or_else (option_map of_fit (if b then Some f else first_fit fs k)) (first_fixing gs k)
    by h true = refl
    by h false = h

pub with_both : (fs gs : List Fit) (k : ℕ) (os : List (Option Fixing)) → fixed_with gs k (fixed_with fs k os) ≡ fixed_with (fs ++ gs) k os
with_both fs gs k [] = refl
with_both fs gs k (o ∷ os) =
    ap (λ x. x ∷ fixed_with gs (suc k) (fixed_with fs (suc k) os))
    (or_else_joined o (first_fixing fs k) (first_fixing gs k) ∙ ap (or_else o) (sym (first_both fs gs k)))
    ∙ ap (λ xs. or_else o (first_fixing (fs ++ gs) k) ∷ xs) (with_both fs gs (suc k) os)

-- fits that fix the same
pub record Alike (fs gs : List Fit) : Type 0 where
  pub fixes : (k : ℕ) → first_fixing fs k ≡ first_fixing gs k

pub with_alike : (fs gs : List Fit) (k : ℕ) (os : List (Option Fixing)) → Alike fs gs → fixed_with fs k os ≡ fixed_with gs k os
with_alike fs gs k [] h = refl
with_alike fs gs k (o ∷ os) h =
    ap (λ x. or_else o x ∷ fixed_with fs (suc k) os) (h.fixes k) ∙ ap (λ xs. or_else o (first_fixing gs k) ∷ xs) (with_alike fs gs (suc k) os h)

pub with_nothing : (k : ℕ) (os : List (Option Fixing)) → fixed_with [] k os ≡ os
with_nothing k [] = refl
with_nothing k (o ∷ os) = ap (λ x. x ∷ fixed_with [] (suc k) os) (or_none o) ∙ ap (λ xs. o ∷ xs) (with_nothing (suc k) os)

-- ---- one fit

pub heap_fixes_none : (at k : ℕ) (f : Found) (os : List (Option Fixing)) → os ≡ fixed_with (fit at TheHeap f ∷ []) k os
heap_fixes_none at k f [] = refl
heap_fixes_none at k f (o ∷ os) = ap (λ x. x ∷ os) (sym (or_none o)) ∙ ap (λ xs. or_else o None ∷ xs) (heap_fixes_none at (suc k) f os)

-- no variable from a later one on
earlier_fixes_none : (at j k : ℕ) (f : Found) (os : List (Option Fixing)) (i : ℕ) → k ≡ j + suc i → fixed_with (fit at (Level j) f ∷ []) k os ≡ os
earlier_fixes_none at j k f [] i e = refl
earlier_fixes_none at j k f (o ∷ os) i e =
    let apart : nat_eq j k ≡ false = grind (arith, e) in
    ap (λ b. or_else o (option_map of_fit (if b && is_found f then Some (fit at (Level j) f) else None)) ∷ fixed_with (fit at (Level j) f ∷ []) (suc k) os)
    apart
    ∙ ap (λ x. x ∷ fixed_with (fit at (Level j) f ∷ []) (suc k) os) (or_none o)
    ∙ ap (λ xs. o ∷ xs) (earlier_fixes_none at j (suc k) f os (suc i) (omega (arith, e)))

pub level_fixes : (at j k i : ℕ) (f : Found) (os : List (Option Fixing)) → is_found f ≡ true → j ≡ k + i
    → noted os i (fixing f at) ≡ fixed_with (fit at (Level j) f ∷ []) k os
level_fixes at j k i f [] h e = refl
level_fixes at j k zero f (None ∷ os) h e =
    let same : nat_eq j k ≡ true = grind (arith, e) in
    sym (ap (λ b. option_map of_fit (if b && is_found f then Some (fit at (Level j) f) else None) ∷ fixed_with (fit at (Level j) f ∷ []) (suc k) os) same
    ∙ ap (λ b. option_map of_fit (if b then Some (fit at (Level j) f) else None) ∷ fixed_with (fit at (Level j) f ∷ []) (suc k) os) h
    ∙ ap (λ xs. Some (fixing f at) ∷ xs) (earlier_fixes_none at j (suc k) f os zero (omega (arith, e))))
level_fixes at j k zero f (Some g ∷ os) h e = ap (λ xs. Some g ∷ xs) (sym (earlier_fixes_none at j (suc k) f os zero (omega (arith, e))))
level_fixes at j k (suc i) f (None ∷ os) h e =
    let apart : nat_eq j k ≡ false = grind (arith, e) in
    ap (λ xs. None ∷ xs) (level_fixes at j (suc k) i f os h (omega (arith, e)))
    ∙ ap (λ b. option_map of_fit (if b && is_found f then Some (fit at (Level j) f) else None) ∷ fixed_with (fit at (Level j) f ∷ []) (suc k) os) (sym apart)
level_fixes at j k (suc i) f (Some g ∷ os) h e = ap (λ xs. Some g ∷ xs) (level_fixes at j (suc k) i f os h (omega (arith, e)))

pub all_are_found : (f : Fixed) → is_found (found_of f) ≡ true
all_are_found (region.Is r) = refl
all_are_found region.Unique = refl

pub next_fixed : (one rest : List Fit) (before after : List (Option Fixing)) (all : List (Option Fixing)) → after ≡ fixed_with one 0 before
    → fixed_with (one ++ rest) 0 before ≡ all → fixed_with rest 0 after ≡ all
next_fixed one rest before after all e h = ap (fixed_with rest 0) e ∙ with_both one rest 0 before ∙ h

-- fits of two lists, one of each at a time
module _ {X Y : Type 0} (F : List X → List Y → List Fit) (one : X → Y → List Fit) (first : (ys : List Y) → F [] ys ≡ []) (second : (xs : List X) → F xs [] ≡ [])
    (step : (x : X) (xs : List X) (y : Y) (ys : List Y) → F (x ∷ xs) (y ∷ ys) ≡ one x y ++ F xs ys) where
  pub all_fixed : (i : ℕ) (xs : List X) (ys : List Y) (os all : List (Option Fixing)) → min (length xs) (length ys) ≤ i
      → fixed_with (F (drop i xs) (drop i ys)) 0 os ≡ all → os ≡ all
  all_fixed i xs ys os all h e = sym (with_nothing 0 os) ∙ ap (λ fs. fixed_with fs 0 os) (sym (past F one first second step i xs ys h)) ∙ e

  pub next_fixes : (i : ℕ) (xs : List X) (ys : List Y) (x d : X) (y e : Y) (before after all : List (Option Fixing)) → i < min (length xs) (length ys)
      → x ≡ get_or xs i d → y ≡ get_or ys i e → after ≡ fixed_with (one x y) 0 before
      → fixed_with (F (drop i xs) (drop i ys)) 0 before ≡ all → fixed_with (F (drop (i + 1) xs) (drop (i + 1) ys)) 0 after ≡ all
  next_fixes i xs ys x d y e before after all h p q was inv =
      next_fixed (one x y) (F (drop (i + 1) xs) (drop (i + 1) ys)) before after all was
      (ap (λ fs. fixed_with fs 0 before) (sym (next_given F one first second step i xs ys x d y e h p q)) ∙ inv)

-- ---- a table in code

pub one_noted : (fs : List (Option code.Fixing)) (i : ℕ) (f : code.Fixing) (o : Option code.Fixing) → i < length fs → o ≡ get_or fs i o → is_some o ≡ false
    → fixings_of (set fs i (Some f)) ≡ noted (fixings_of fs) i (fixing_of f)
one_noted [] i f o l r e = refl
one_noted (None ∷ fs) zero f o l r e = refl
one_noted (Some g ∷ fs) zero f o l r e = absurd (true≢false (sym (ap is_some r) ∙ e))
one_noted (None ∷ fs) (suc i) f o l r e = ap (λ xs. None ∷ xs) (one_noted fs i f o (omega (arith, l)) r e)
one_noted (Some g ∷ fs) (suc i) f o l r e = ap (λ xs. Some (fixing_of g) ∷ xs) (one_noted fs i f o (omega (arith, l)) r e)

pub stays_noted : (fs : List (Option code.Fixing)) (i : ℕ) (f : code.Fixing) (o : Option code.Fixing) → i < length fs → o ≡ get_or fs i o → is_some o ≡ true
    → fixings_of fs ≡ noted (fixings_of fs) i (fixing_of f)
stays_noted [] i f o l r e = refl
stays_noted (None ∷ fs) zero f o l r e = absurd (true≢false (sym e ∙ ap is_some r))
stays_noted (Some g ∷ fs) zero f o l r e = refl
stays_noted (None ∷ fs) (suc i) f o l r e = ap (λ xs. None ∷ xs) (stays_noted fs i f o (omega (arith, l)) r e)
stays_noted (Some g ∷ fs) (suc i) f o l r e = ap (λ xs. Some (fixing_of g) ∷ xs) (stays_noted fs i f o (omega (arith, l)) r e)

pub past_noted : (fs : List (Option code.Fixing)) (i : ℕ) (f : code.Fixing) → length fs ≤ i → fixings_of fs ≡ noted (fixings_of fs) i (fixing_of f)
past_noted [] i f l = refl
past_noted (o ∷ fs) zero f l = absurd (omega (arith, l))
past_noted (None ∷ fs) (suc i) f l = ap (λ xs. None ∷ xs) (past_noted fs i f (omega (arith, l)))
past_noted (Some g ∷ fs) (suc i) f l = ap (λ xs. Some (fixing_of g) ∷ xs) (past_noted fs i f (omega (arith, l)))

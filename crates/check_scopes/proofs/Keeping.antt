-- What is known where a local is declared, and where a block is entered and left.
use Rattle.std.proofs.Common.{◌≡◌, ℕ, ◌+◌, ◌≤◌, List, [], ◌∷◌, Bool, true, false, length, take, refl, sym, ap, subst, ◌∙◌, arith}
use Rattle.std.proofs.lemmas.Bool.Decides.{nat_tests}
use Rattle.std.proofs.lemmas.List.{take-append-le, take_all}
use Rattle.std.specs.Prelude.{Option, Some, bytes_eq, nat_eq, nat_le, ◌&&◌, ◌||◌, if◌then◌else◌}
use Rattle.cyc_tree.specs.Tree as tree
use Rattle.cyc_types.specs.Sameness.{HasTags}
use Rattle.source_typing.specs.Scope.{Env, block_entered, is_second, meant, with_local, with_locals}
use Rattle.source_typing.specs.Scope as rules
use Rattle.source_typing.specs.Tables.{OfValue, find}
use Rattle.source_typing.specs.Tables as rules_tables
use Rattle.check_regions.proofs.Extending.{block_begins}
use Rattle.check_regions.specs.Marks.{mark_of}
use Rattle.check_regions.specs.Scopes.{AreThose, first_of}
use Rattle.check_regions.specs.declared.begun.Begun.TheVariants.{Block}
use Rattle.check_regions.specs.declared.scope.RegionMark.{RegionMark}
use Rattle.check_scopes.proofs.Linking.{none_after, none_dropped}
use Rattle.check_scopes.specs.Changes.{AllAround, IsBlock, entered, left, with_known}
use Rattle.check_scopes.specs.Globals.{global_meaning}
use Rattle.check_scopes.specs.Knows.{Knows, Sees, local_or, means_in, of_local}
use Rattle.check_scopes.specs.Locals.{dropped_to, find_what, is_after, known}
use Rattle.check_scopes.specs.Means.{Means, WhatIs}
use Rattle.check_scopes.specs.Means as means
use Rattle.check_scopes.specs.declared.locals.What.{What}
use Rattle.check_scopes.specs.declared.locals.What.TheVariants as local
use Rattle.check_scopes.specs.declared.meaning.Meaning.{Meaning}
use Rattle.check_scopes.specs.declared.meaning.Meaning.TheVariants as code
use Rattle.check_scopes.specs.declared.scope.Scope.{Scope}

-- ---- a local is declared

-- what a local means
pub local_means : (w : rules_tables.What) (v : What) → WhatIs w v → Means (Some (OfValue w)) (Some (of_local v))
local_means w v (means.WhatIs.Variable t r) = means.Means.Variable t r
local_means w v (means.WhatIs.Array t r) = means.Means.Array t r
local_means w v means.WhatIs.Counted = means.Means.CounterValue
local_means w v means.WhatIs.Untyped = means.Means.UntypedValue
local_means w v means.WhatIs.NotKnown = means.Means.UnknownValue

-- the rules' scope with one more local
abbrev and_local : List ℕ → rules_tables.What → Env → Env
and_local x w g = record g { locals = record { name = x; what = w; block = g.block } ∷ g.locals }

-- it is declared where it is no second one
pub is_declared : (x : tree.Name) (w : rules_tables.What) (g : Env) → is_second g.locals g.block x.text ≡ false → with_local x w g ≡ and_local x.text w g
is_declared x w g e = ap (λ b. if b then g else and_local x.text w g) e

-- a second one is not
pub not_declared : (x : tree.Name) (w : rules_tables.What) (g : Env) → is_second g.locals g.block x.text ≡ true → with_local x w g ≡ g
not_declared x w g e = ap (λ b. if b then g else and_local x.text w g) e

module _ (s : Scope) (g : Env) (h : Knows s g) where
  with_local_known : (x : List ℕ) (w : rules_tables.What) (v : What) → WhatIs w v → Knows (with_known x v s) (and_local x w g)
  with_local_known x w v is = record {
    names = λ y. by (bytes_eq x y) y;
    tags = h.tags;
    regions = h.regions;
    lenient = h.lenient;
    enclosing = h.enclosing;
  }
    where
      by : (b : Bool) (y : List ℕ)
          → Means (if b then Some (OfValue w) else meant g y) (local_or (if b then Some v else find_what s.locals y) (global_meaning s.globals.now y))
      by true y = local_means w v is
      by false y = h.names y

  -- a local that is no second one is known in code and by the rules
  pub declared_known : (x : tree.Name) (w : rules_tables.What) (v : What) → WhatIs w v → is_second g.locals g.block x.text ≡ false
      → Knows (with_known x.text v s) (with_local x w g)
  declared_known x w v is e = subst (Knows (with_known x.text v s)) (sym (is_declared x w g e)) (with_local_known x.text w v is)

  -- a second one leaves the first one
  pub second_known : (x : tree.Name) (w : rules_tables.What) → is_second g.locals g.block x.text ≡ true → Knows s (with_local x w g)
  second_known x w e = subst (Knows s) (sym (not_declared x w g e)) h

  -- ---- a block is entered

  pub entered_known : Knows (entered s) (block_entered g)
  entered_known = record {
    names = h.names;
    tags = h.tags;
    regions = block_begins s.regions g.regions h.regions;
    lenient = h.lenient;
    enclosing = h.enclosing;
  }

  -- where the same names and regions are in scope
  pub known_there : (f : Env) → f.tables ≡ g.tables → f.locals ≡ g.locals → f.regions ≡ g.regions → f.lenient ≡ g.lenient → f.enclosing ≡ g.enclosing
      → Knows s f
  known_there f t l r n e = record {
    names = λ x. subst (λ d. Means d (means_in s x))
        (sym (ap (λ ls. find (with_locals ls f.tables) x) l ∙ ap (λ ts. find (with_locals g.locals ts) x) t)) (h.names x);
    tags = subst (HasTags s.tables.now) (sym t) h.tags;
    regions = subst (AreThose s.regions) (sym r) h.regions;
    lenient = h.lenient ∙ sym n;
    enclosing = e ∙ h.enclosing;
  }

-- what is known of structs, unions and regions
pub sees : {s : Scope} {g : Env} → Knows s g → Sees s g
sees k = record { tags = k.tags; regions = k.regions; lenient = k.lenient }

-- ---- which locals are of the innermost block

equal_self : (n : ℕ) → nat_eq n n ≡ true
equal_self n = grind (arith, nat_tests)

-- none is of a block that begins
none_second : (block : ℕ) (ls : List rules.Local) (x : List ℕ) → AllAround block ls → is_second ls (block + 1) x ≡ false
none_second block [] x h = refl
none_second block (l ∷ ls) x h =
    let m = h.0 in
    let e : nat_eq l.block (block + 1) ≡ false = grind (arith, nat_tests, m) in
    ap (λ b. (b && bytes_eq l.name x) || is_second ls (block + 1) x) e ∙ none_second block ls x h.1

around_later : (block : ℕ) (ls : List rules.Local) → AllAround block ls → AllAround (block + 1) ls
around_later block [] h = tt
around_later block (l ∷ ls) h = let m = h.0 in (grind (arith, m), around_later block ls h.1)

-- a block begins after all locals
pub block_is_entered : (s : Scope) (g : Env) → AllAround g.block g.locals → IsBlock (length s.locals) (entered s) (block_entered g)
block_is_entered s g h = record {
  second = λ x. none_after s.locals (length s.locals) x (grind arith) ∙ sym (none_second g.block g.locals x h);
  within = grind arith;
  around = around_later g.block g.locals h;
}

-- a local that is declared is of the innermost block
pub block_goes_on : (outer : ℕ) (s : Scope) (g : Env) (x : tree.Name) (w : rules_tables.What) (v : What) → IsBlock outer s g
    → is_second g.locals g.block x.text ≡ false → IsBlock outer (with_known x.text v s) (with_local x w g)
block_goes_on outer s g x w v h e = subst (IsBlock outer (with_known x.text v s)) (sym (is_declared x w g e)) record {
  second = λ y.
      let i : nat_le outer (length s.locals) ≡ true = let m = h.within in grind (arith, nat_tests, m) in
      ap (λ b. (b && bytes_eq x.text y) || is_after s.locals outer y) i
      ∙ ap (λ b. (b && bytes_eq x.text y) || is_after s.locals outer y) (sym (equal_self g.block))
      ∙ ap (λ b. (nat_eq g.block g.block && bytes_eq x.text y) || b) (h.second y);
  within = let m = h.within in grind (arith, m);
  around = (grind arith, h.around);
}

-- ---- a block is left

-- what is in scope at the mark is so where it is left at once
pub left_at_once : (s : Scope) → left (length s.locals) (mark_of s.regions) s ≡ s
left_at_once s =
    ap (λ ls. record s { locals = ls; regions = first_of (length s.regions.begun) (length s.regions.opened) s.regions })
    (none_dropped (length s.locals) s.locals (grind arith))
    ∙ ap (λ bs. record s { regions = record s.regions { begun = bs; opened = take (length s.regions.opened) s.regions.opened } })
    (take_all (length s.regions.begun) s.regions.begun (grind arith))
    ∙ ap (λ rs. record s { regions = record s.regions { opened = rs } }) (take_all (length s.regions.opened) s.regions.opened (grind arith))

-- a local that was declared in it is gone
pub left_declared : (count : ℕ) (mark : RegionMark) (s : Scope) (x : List ℕ) (v : What) → count ≤ length s.locals
    → left count mark (with_known x v s) ≡ left count mark s
left_declared count mark s x v within =
    let e : nat_le count (length s.locals) ≡ true = grind (arith, nat_tests, within) in
    ap (λ b. record s {
      locals = if b then dropped_to count s.locals else known x v ∷ s.locals;
      regions = first_of mark.names mark.opened s.regions;
    }) e

-- the region of a block that was entered in it is gone
pub left_entered : (count : ℕ) (mark : RegionMark) (s : Scope) → mark.names ≤ length s.regions.begun → left count mark (entered s) ≡ left count mark s
left_entered count mark s within =
    ap (λ bs. record s { locals = dropped_to count s.locals; regions = record s.regions { begun = bs; opened = take mark.opened s.regions.opened } })
    (take-append-le mark.names s.regions.begun (Block ∷ []) within)

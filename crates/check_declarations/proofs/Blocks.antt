-- What is in scope where a block begins, after each of its items, and where it is left.
use Rattle.std.proofs.Common.{◌≡◌, ℕ, suc, ◌-◌, ◌≤◌, List, ◌∷◌, [], ◌++◌, Bool, true, false, Option, refl, sym, ap, subst, ◌∙◌}
use Rattle.std.proofs.Common.{length, drop, take, arith}
use Rattle.std.specs.Prelude.{nat_le, if◌then◌else◌}
use Rattle.std.proofs.lemmas.List.{length-append, length-drop, length-take}
use Rattle.cyc_tree.specs.Tree as tree
use Rattle.cyc_tree.specs.View.{OneItem}
use Rattle.source_typing.proofs.NamedBelow.{names_up}
use Rattle.source_typing.specs.Declarations.{declare, name_added}
use Rattle.source_typing.specs.Faults.{Fault, earliest}
use Rattle.source_typing.specs.Scope.{Env, block_entered}
use Rattle.source_typing.specs.Statements.{in_a_loop, in_a_switch}
use Rattle.check_faults.specs.Faults.{faults_of, first_of, sooner_found}
use Rattle.check_faults.specs.declared.fault.Fault as found
use Rattle.check_faults.proofs.Earliest.{earliest_of_both, found_sooner}
use Rattle.check_scopes.specs.Changes.{left}
use Rattle.check_scopes.specs.Locals.{Known, dropped_to}
use Rattle.check_scopes.specs.declared.scope.Scope.{Scope}
use Rattle.check_scopes.specs.Changes.{AllAround, IsBlock, entered}
use Rattle.check_scopes.specs.Knows.{Knows}
use Rattle.check_scopes.proofs.Keeping.{block_is_entered, entered_known, known_there, left_at_once, left_entered}
use Rattle.check_regions.specs.Marks.{mark_of}
use Rattle.check_regions.specs.Scopes.{Scoped, with_begun}
use Rattle.check_regions.specs.Scopes as scoped
use Rattle.check_regions.specs.declared.begun.Begun.TheVariants.{Block}
use Rattle.check_regions.specs.declared.scope.RegionMark.{RegionMark}
use Rattle.cyc_types.specs.Regions.{region_of}
use Rattle.cyc_types.specs.declared.region.RegionId.{RegionId}
use Rattle.source_typing.specs.Regions.{Level, Region}
use Rattle.source_typing.specs.Written.{RegionNamed}
use Rattle.check_declarations.specs.Contexts.{StandsIn, Suits, kept_to}
use Rattle.check_declarations.specs.declared.context.Context.{Context}

-- what is in scope after an item
abbrev pub scope_behind : Env → OneItem → Env
scope_behind g (OneItem.Declare d) = (declare g d).scope
scope_behind g (OneItem.Execute s) = g

-- what was found of two phrases
pub two_found : (a b r : Option found.Fault) (fs gs : List Fault) → r ≡ sooner_found a b → faults_of a ≡ earliest fs → faults_of b ≡ earliest gs
    → faults_of r ≡ earliest (fs ++ gs)
two_found a b r fs gs e p q =
    ap (λ o. faults_of o) e ∙ found_sooner a b ∙ ap (λ o. first_of o (faults_of b)) p ∙ ap (λ o. first_of (earliest fs) o) q ∙ sym (earliest_of_both fs gs)

-- ---- blocks

-- a block begins: all that is in scope is known, and its stack region is the one that is next
pub block_stands : (c : Context) (names : List RegionNamed) (s : Scope) (g : Env) (regions : Scoped) (frame : RegionId) (outer : ℕ) → Knows s g
    → Suits c names g → AllAround g.block g.locals → regions ≡ with_begun Block s.regions → region_of frame ≡ Level (length s.regions.begun)
    → outer ≡ length s.locals → StandsIn (record c { frame = frame }) names outer (record s { regions = regions }) (block_entered g)
block_stands c names s g regions frame outer h suits around e f o =
    subst (λ r. StandsIn (record c { frame = frame }) names outer (record s { regions = r }) (block_entered g)) (sym e) record {
      known = entered_known s g h;
      suits = record {
        names = suits.names;
        below = names_up g.regions.count g.names suits.below;
        result = suits.result;
        frame = f ∙ ap Level h.regions.count;
        item = suits.item;
        in_loop = suits.in_loop;
        in_switch = suits.in_switch;
      };
      block = subst (λ n. IsBlock n (entered s) (block_entered g)) (sym o) (block_is_entered s g around);
    }

-- all regions that were in scope before are so in it
pub begun_longer : (s regions : Scoped) → regions ≡ with_begun Block s → length s.begun ≤ length regions.begun
begun_longer s regions e =
    let more : length s.begun ≤ length (s.begun ++ Block ∷ []) = omega (arith, length-append s.begun (Block ∷ [])) in
    subst (λ r. length s.begun ≤ length r.begun) (sym e) more

pub opened_same : (s regions : Scoped) → regions ≡ with_begun Block s → length s.opened ≤ length regions.opened
opened_same s regions e = let same : length s.opened ≤ length s.opened = omega arith in subst (λ r. length s.opened ≤ length r.opened) (sym e) same

-- leaving it at once, and after all of its items
pub block_left : (s t : Scope) (regions : Scoped) → regions ≡ with_begun Block s.regions
    → left (length s.locals) (mark_of s.regions) t ≡ left (length s.locals) (mark_of s.regions) (record s { regions = regions })
    → left (length s.locals) (mark_of s.regions) t ≡ s
block_left s t regions e k =
    k ∙ ap (λ r. left (length s.locals) (mark_of s.regions) (record s { regions = r })) e
    ∙ left_entered (length s.locals) (mark_of s.regions) s (grind arith) ∙ left_at_once s

pub left_is : (t : Scope) (locals : List Known) (regions : Scoped) (n : ℕ) (m : RegionMark) → locals ≡ dropped_to n t.locals
    → regions ≡ scoped.first_of m.names m.opened t.regions → record t { locals = locals; regions = regions } ≡ left n m t
left_is t locals regions n m e f =
    ap (λ ls. record t { locals = ls; regions = regions }) e ∙ ap (λ r. record t { locals = dropped_to n t.locals; regions = r }) f

-- ---- loops

pub loop_known : (s : Scope) (g : Env) → Knows s g → Knows s (in_a_loop g)
loop_known s g h = known_there s g h (in_a_loop g) refl refl refl refl refl

pub loop_suits : (c d : Context) (names : List RegionNamed) (g : Env) → Suits c names g → d ≡ record c { in_loop = true } → Suits d names (in_a_loop g)
loop_suits c d names g h e =
    subst (λ x. Suits x names (in_a_loop g)) (sym e) record {
      names = h.names;
      below = h.below;
      result = h.result;
      frame = h.frame;
      item = h.item;
      in_loop = refl;
      in_switch = h.in_switch;
    }

pub switch_known : (s : Scope) (g : Env) → Knows s g → Knows s (in_a_switch g)
switch_known s g h = known_there s g h (in_a_switch g) refl refl refl refl refl

pub switch_suits : (c d : Context) (names : List RegionNamed) (g : Env) → Suits c names g → d ≡ record c { in_switch = true } → Suits d names (in_a_switch g)
switch_suits c d names g h e =
    subst (λ x. Suits x names (in_a_switch g)) (sym e) record {
      names = h.names;
      below = h.below;
      result = h.result;
      frame = h.frame;
      item = h.item;
      in_loop = h.in_loop;
      in_switch = refl;
    }

-- ---- what is left

dropped_shorter : (n : ℕ) (ls : List Known) → length (dropped_to n ls) ≤ length ls
dropped_shorter n [] = grind arith
dropped_shorter n (l ∷ ls) = by (nat_le n (length ls)) (dropped_shorter n ls)
  where
    by : (b : Bool) → length (dropped_to n ls) ≤ length ls → length (if b then dropped_to n ls else l ∷ ls) ≤ length (l ∷ ls)
    by true h = grind (arith, h)
    by false h = grind arith

-- where leaving the block gives back what was in scope, there are no fewer locals
pub no_fewer : (s t : Scope) → left (length s.locals) (mark_of s.regions) t ≡ left (length s.locals) (mark_of s.regions) s → length s.locals ≤ length t.locals
no_fewer s t e =
    let n : ℕ = length s.locals in
    let same : dropped_to n t.locals ≡ s.locals = ap (λ (x : Scope). x.locals) (e ∙ left_at_once s) in
    let shorter : length (dropped_to n t.locals) ≤ length t.locals = dropped_shorter n t.locals in
    subst (λ ls. length ls ≤ length t.locals) same shorter

-- and no fewer regions
pub no_fewer_regions : (s t : Scope) → left (length s.locals) (mark_of s.regions) t ≡ left (length s.locals) (mark_of s.regions) s
    → length s.regions.begun ≤ length t.regions.begun
no_fewer_regions s t e =
    let n : ℕ = length s.regions.begun in
    let same : take n t.regions.begun ≡ s.regions.begun = ap (λ (x : Scope). x.regions.begun) (e ∙ left_at_once s) in
    let shorter : length (take n t.regions.begun) ≤ length t.regions.begun = omega (arith, length-take n t.regions.begun) in
    subst (λ bs. length bs ≤ length t.regions.begun) same shorter

-- and no fewer opened ones
pub no_fewer_opened : (s t : Scope) → left (length s.locals) (mark_of s.regions) t ≡ left (length s.locals) (mark_of s.regions) s
    → length s.regions.opened ≤ length t.regions.opened
no_fewer_opened s t e =
    let n : ℕ = length s.regions.opened in
    let same : take n t.regions.opened ≡ s.regions.opened = ap (λ (x : Scope). x.regions.opened) (e ∙ left_at_once s) in
    let shorter : length (take n t.regions.opened) ≤ length t.regions.opened = omega (arith, length-take n t.regions.opened) in
    subst (λ rs. length rs ≤ length t.regions.opened) same shorter

-- ---- the region names that are left

module _ (count : ℕ) where
  -- one that was added is gone
  kept_more : (n : RegionNamed) (ns : List RegionNamed) → count ≤ length ns → kept_to count (n ∷ ns) ≡ kept_to count ns
  kept_more n ns h =
      let e : length (n ∷ ns) - count ≡ suc (length ns - count) = omega (arith, h) in ap (λ k. drop k (n ∷ ns)) e

  pub kept_added : (there : Bool) (x : tree.Name) (r : Region) (ns : List RegionNamed) → count ≤ length ns
      → kept_to count (name_added there x r ns) ≡ kept_to count ns
  kept_added true x r ns h = refl
  kept_added false x r ns h = kept_more _ ns h

-- leaving a block at once leaves them all
pub all_kept : (ns : List RegionNamed) → kept_to (length ns) ns ≡ ns
all_kept ns = let e : length ns - length ns ≡ 0 = omega arith in ap (λ k. drop k ns) e

-- where leaving the block gives back the names that were in scope, there are no fewer
pub no_fewer_names : (ns ms : List RegionNamed) → kept_to (length ns) ms ≡ kept_to (length ns) ns → length ns ≤ length ms
no_fewer_names ns ms e =
    let shorter : length (kept_to (length ns) ms) ≤ length ms = omega (arith, length-drop (length ms - length ns) ms) in
    subst (λ xs. length xs ≤ length ms) (e ∙ all_kept ns) shorter

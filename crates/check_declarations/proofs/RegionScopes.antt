-- What is in scope where a region begins or is opened.
use Rattle.std.proofs.Common.{◌≡◌, ℕ, ◌+◌, ◌≤◌, ◌<◌, Bool, true, false, List, [], ◌∷◌, Option, Some, None, length, take, refl, sym, ap, subst, ◌∙◌, arith}
use Rattle.std.proofs.lemmas.List.{take-append-le}
use Rattle.std.specs.Prelude.{bytes_eq, if◌then◌else◌, is_some}
use Rattle.cyc_tree.specs.Tree as tree
use Rattle.check_scopes.specs.Changes.{left}
use Rattle.check_scopes.specs.Locals.{dropped_to}
use Rattle.check_scopes.specs.declared.scope.Scope.{Scope}
use Rattle.check_regions.specs.Scopes.{AreThose, Scoped, with_begun, with_opened}
use Rattle.check_regions.specs.declared.begun.Begun.{Begun}
use Rattle.check_regions.specs.declared.scope.RegionMark.{RegionMark}
use Rattle.source_typing.proofs.NamedBelow.{names_up}
use Rattle.source_typing.specs.Named.{Below, NamesBelow}
use Rattle.source_typing.specs.Declarations.{if_own_region, key_region, name_added, named_region, opened_region, opens, with_region}
use Rattle.source_typing.specs.Faults.{Fault}
use Rattle.source_typing.specs.Regions.{Region, Regions, opened, same_id}
use Rattle.source_typing.specs.Scope.{Env, next_region}
use Rattle.source_typing.specs.Scope as judged
use Rattle.source_typing.specs.Verdicts.{Faulty, Of, Unjudged, Verdict, after, unless_faulty}
use Rattle.source_typing.specs.Written.{RegionNamed, find_region}
use Rattle.check_declarations.specs.Contexts.{StandsIn}
use Rattle.check_declarations.specs.declared.context.Context.{Context}

-- ---- of which regions names are

-- also with the name of the region that is next
names_below : (g : Env) (r : tree.RegionName) (next : Regions → Regions) → NamesBelow g.regions.count g.names
    → NamesBelow (g.regions.count + 1) (with_region r next g).names
names_below g (tree.Heap at) next h = names_up g.regions.count g.names h
names_below g (tree.Unique at) next h = names_up g.regions.count g.names h
names_below g (tree.Named n) next h = by (is_some (find_region g.names n.text))
  where
    by : (b : Bool) → NamesBelow (g.regions.count + 1) (name_added b n (next_region g) g.names)
    by true = names_up g.regions.count g.names h
    by false = let last : g.regions.count < g.regions.count + 1 = omega arith in (last, names_up g.regions.count g.names h)

abbrev FoundBelow : ℕ → Option Region → Type 0
FoundBelow n None = Unit {0}
FoundBelow n (Some r) = Below n r

found_below : (n : ℕ) (ns : List RegionNamed) (x : List ℕ) → NamesBelow n ns → FoundBelow n (find_region ns x)
found_below n [] x h = tt
found_below n (r ∷ rs) x h = by (bytes_eq r.name x) (found_below n rs x h.1)
  where
    by : (b : Bool) → FoundBelow n (find_region rs x) → FoundBelow n (if b then Some r.id else find_region rs x)
    by true later = h.0
    by false later = later

named_below : (g : Env) (r : tree.RegionName) → NamesBelow g.regions.count g.names → FoundBelow g.regions.count (named_region g r)
named_below g (tree.Heap at) h = tt
named_below g (tree.Unique at) h = tt
named_below g (tree.Named n) h = found_below g.regions.count g.names n.text h

is_below : (n at : ℕ) (fs : List Fault) (v : Verdict judged.Value) (o : Option Region) (q : Region) → FoundBelow n o
    → unless_faulty fs (after v (opens at o)) ≡ Of q → Below n q
is_below n at (f ∷ fs) v o q h e = absurd cc
is_below n at [] (Faulty f fs) o q h e = absurd cc
is_below n at [] Unjudged o q h e = absurd cc
is_below n at [] (Of v) None q h e = absurd cc
is_below n at [] (Of v) (Some r) q h e = by (same_id r (key_region v.type)) e
  where
    by : (b : Bool) → if_own_region b at r ≡ Of q → Below n q
    by true same = let is : r ≡ q = cc in subst (Below n) is h
    by false same = absurd cc

-- a region that is opened is in scope
pub opened_below : (g : Env) (r : tree.RegionName) (k : tree.Name) (q : Region) → NamesBelow g.regions.count g.names → opened_region g r k ≡ Of q
    → Below g.regions.count q
opened_below g r k q h e = is_below g.regions.count _ _ _ (named_region g r) q (named_below g r h) e

-- ---- what stands in scope

-- the scope after a region begins, field by field
begun_is : (g : Env) (r : tree.RegionName) (next : Regions → Regions)
    → with_region r next g ≡ record g { regions = next g.regions; names = (with_region r next g).names }
begun_is g (tree.Named n) next = refl
begun_is g (tree.Heap at) next = refl
begun_is g (tree.Unique at) next = refl

module _ (c : Context) (old new : List RegionNamed) (outer : ℕ) (s : Scope) (g : Env) (rs : Scoped) (h : StandsIn c old outer s g) where
  -- a region begins
  pub begun_stands : (r : tree.RegionName) (next : Regions → Regions) → AreThose rs (next g.regions) → (next g.regions).count ≡ g.regions.count + 1
      → new ≡ (with_region r next g).names → StandsIn c new outer (record s { regions = rs }) (with_region r next g)
  begun_stands r next those more e = subst (StandsIn c new outer (record s { regions = rs })) (sym (begun_is g r next)) record {
    known = record { names = h.known.names; tags = h.known.tags; regions = those; lenient = h.known.lenient; enclosing = h.known.enclosing };
    suits = record {
      names = e;
      below = subst (λ n. NamesBelow n (with_region r next g).names) (sym more) (names_below g r next h.suits.below);
      result = h.suits.result;
      frame = h.suits.frame;
      item = h.suits.item;
      in_loop = h.suits.in_loop;
      in_switch = h.suits.in_switch;
    };
    block = record { second = h.block.second; within = h.block.within; around = h.block.around };
  }

  -- a region is opened
  pub opened_stands : (q : Region) → AreThose rs (opened q g.regions) → StandsIn c old outer (record s { regions = rs })
      (record g { regions = opened q g.regions })
  opened_stands q those = record {
    known = record { names = h.known.names; tags = h.known.tags; regions = those; lenient = h.known.lenient; enclosing = h.known.enclosing };
    suits = record {
      names = h.suits.names;
      below = h.suits.below;
      result = h.suits.result;
      frame = h.suits.frame;
      item = h.suits.item;
      in_loop = h.suits.in_loop;
      in_switch = h.suits.in_switch;
    };
    block = record { second = h.block.second; within = h.block.within; around = h.block.around };
  }

-- ---- what is left of it where a block is left

module _ (count : ℕ) (mark : RegionMark) (s : Scope) (rs : Scoped) where
  pub left_begun : (b : Begun) → rs ≡ with_begun b s.regions → mark.names ≤ length s.regions.begun
      → left count mark (record s { regions = rs }) ≡ left count mark s
  left_begun b e within =
      ap (λ qs. left count mark (record s { regions = qs })) e
      ∙ ap (λ bs. record s {
        locals = dropped_to count s.locals;
        regions = record s.regions { begun = bs; opened = take mark.opened s.regions.opened };
      }) (take-append-le mark.names s.regions.begun (b ∷ []) within)

  pub left_opened : (q : Region) → rs ≡ with_opened q s.regions → mark.opened ≤ length s.regions.opened
      → left count mark (record s { regions = rs }) ≡ left count mark s
  left_opened q e within =
      ap (λ qs. left count mark (record s { regions = qs })) e
      ∙ ap (λ os. record s {
        locals = dropped_to count s.locals;
        regions = record s.regions { begun = take mark.names s.regions.begun; opened = os };
      }) (take-append-le mark.opened s.regions.opened (q ∷ []) within)

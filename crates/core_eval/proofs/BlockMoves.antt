-- A block is entered, and left.
use Rattle.std.specs.Prelude.{if◌then◌else◌, nat_eq, ◌&&◌, option_map}
use Rattle.std.proofs.lemmas.Bool.Decides.{nat_tests}
use Rattle.std.proofs.Common.{
  ◌≡◌,
  ℕ,
  suc,
  ◌+◌,
  Bool,
  true,
  false,
  Option,
  Some,
  None,
  List,
  [],
  ◌∷◌,
  ◌++◌,
  length,
  map,
  drop,
  refl,
  ap,
  ◌∙◌,
  sym,
  subst,
  append_assoc,
  append-nil,
  arith,
}
use Rattle.core_meaning.specs.Memory.{Region, Frame, Own, Born, Live, Dead, Memory, is_live, same_region, with_standing, with_object, blanks}
use Rattle.core_meaning.specs.Core as core
use Rattle.core_meaning.specs.Core.{Local, Statements}
use Rattle.core_meaning.specs.Steps.{Config, Exit}
use Rattle.core_meaning.specs.Meaning.{with_objects, in_block, out_of_block}
use Rattle.cyc_core.specs.declared.layout.Local as code
use Rattle.cyc_core.specs.Trees.{local_tree, local_layout, local_count}
use Rattle.core_eval.specs.declared.value.Slot.{Slot}
use Rattle.core_eval.specs.Values.{spot_of, Shows}
use Rattle.core_eval.specs.Elements.{blank_object}
use Rattle.core_eval.specs.Blocks.{Activation, position_of}
use Rattle.core_eval.specs.Pendings.{Execute, Follow, Leave, Wait, Block, Go, Mark, rest_of}
use Rattle.core_eval.specs.Standing.{Holds, Known, Agrees, Stands, IsFresh, AreNested, AreAllLive, AreOwned, AreAllOwned, AreBorn}
use Rattle.core_eval.specs.Costs.{IsMove}
use Rattle.core_eval.proofs.Elements.{blank_part}
use Rattle.core_eval.proofs.Memories.{other_number, shows_standing, shows_objects, shows_grown}
use Rattle.core_eval.proofs.Lists.{length_more}
use Rattle.core_eval.proofs.Nested.{nested_still}
use Rattle.core_eval.proofs.Owned.{owned_still}
use Rattle.core_eval.proofs.Born.{KeepsBorn, born_kept}
use Rattle.core_eval.proofs.Moves.{all_stand, goes_here}
use Rattle.core_meaning.proofs.Spots.{region_self}

-- ---- what a block's objects change

-- in other regions nothing
module _ (q r : Region) (other : same_region q r ≡ false) where
  pub objects_other : (ls : List Local) (m : Memory) → (with_objects r ls m).objects q ≡ m.objects q
  objects_other [] m = refl
  objects_other (l ∷ ls) m =
      objects_other ls (with_object m r (blanks l.layout l.count)) ∙ ap (λ b. if b then m.objects r + 1 else m.objects q) other

  pub parts_other : (i k j : ℕ) (ls : List Local) (m : Memory) → (with_objects r ls m).parts (spot_of q i k) j ≡ m.parts (spot_of q i k) j
  parts_other i k j [] m = refl
  parts_other i k j (l ∷ ls) m =
      parts_other i k j ls (with_object m r (blanks l.layout l.count))
      ∙ ap (λ b. if b && nat_eq i (m.objects r) then blanks l.layout l.count k j else m.parts (spot_of q i k) j) other

-- no activation
pub activations_same : (r : Region) (ls : List Local) (m : Memory) → (with_objects r ls m).activations ≡ m.activations
activations_same r [] m = refl
activations_same r (l ∷ ls) m = activations_same r ls (with_object m r (blanks l.layout l.count))

pub calls_same : (r : Region) (ls : List Local) (m : Memory) → (with_objects r ls m).calls ≡ m.calls
calls_same r [] m = refl
calls_same r (l ∷ ls) m = calls_same r ls (with_object m r (blanks l.layout l.count))

-- no birth
births_same : (r : Region) (ls : List Local) (m : Memory) → (with_objects r ls m).births ≡ m.births
births_same r [] m = refl
births_same r (l ∷ ls) m = births_same r ls (with_object m r (blanks l.layout l.count))

-- no standing
pub standing_same : (r : Region) (ls : List Local) (m : Memory) (q : Region) → (with_objects r ls m).standing q ≡ m.standing q
standing_same r [] m q = refl
standing_same r (l ∷ ls) m q = standing_same r ls (with_object m r (blanks l.layout l.count)) q

-- nothing of what was born
pub objects_keep : (r : Region) (ls : List Local) (m : Memory) → ((d : ℕ) → same_region (Born d) r ≡ false) → KeepsBorn m (with_objects r ls m)
objects_keep r ls m other = record {
  births = births_same r ls m;
  standing = λ d. standing_same r ls m (Born d);
  objects = λ d. objects_other (Born d) r (other d) ls m;
  parts = λ d i k j. parts_other (Born d) r (other d) i k j ls m;
}

-- a block that isn't among some is neither the first of them nor a later one
pub not_first : (n k : ℕ) (o : Option ℕ) → (if nat_eq n k then Some 0 else option_map suc o) ≡ None → nat_eq n k ≡ false
not_first n k o h = by (nat_eq n k) h
  where
    by : (t : Bool) → (if t then Some 0 else option_map suc o) ≡ None → t ≡ false
    by true e = cc
    by false e = refl

pub not_later : (n k : ℕ) (o : Option ℕ) → (if nat_eq n k then Some 0 else option_map suc o) ≡ None → o ≡ None
not_later n k None h = refl
not_later n k (Some p) h = by (nat_eq n k) h
  where
    by : (t : Bool) → (if t then Some 0 else Some (suc p)) ≡ None → Some p ≡ None
    by true e = cc
    by false e = cc

-- one object for each local
pub all_shown : (r : Region) (locals : List code.Local) (m : Memory) (objects : List (List Slot)) → Shows m r objects → m.objects r ≡ length objects
    → Shows (with_objects r (map local_tree locals) m) r (objects ++ map blank_object locals)
all_shown r [] m objects shows counted = subst (λ (os : List (List Slot)). Shows m r os) (sym (append-nil objects)) shows
all_shown r (w ∷ locals) m objects shows counted =
    let m1 = with_object m r (blanks (local_layout w) (local_count w)) in
    let more : m1.objects r ≡ length (objects ++ blank_object w ∷ []) =
    ap (λ b. if b then m.objects r + 1 else m.objects r) (region_self r) ∙ ap (λ n. n + 1) counted ∙ length_more objects (blank_object w) in
    subst (λ (os : List (List Slot)). Shows (with_objects r (map local_tree locals) m1) r os)
    (append_assoc objects (blank_object w ∷ []) (map blank_object locals))
    (all_shown r locals m1 (objects ++ blank_object w ∷ []) (shows_grown shows counted (blanks (local_layout w) (local_count w)) (blank_object w)
    (blank_part w)) more)

-- ---- a block is entered

-- the memory in which the block is live and has no objects as yet
abbrev begun : Memory → Memory
begun m = record (with_standing m (Frame m.activations) Live) { activations = m.activations + 1 }

shows_begun : (m : Memory) (q : Region) (objects : List (List Slot)) → same_region q (Frame m.activations) ≡ false → Shows m q objects
    → Shows (begun m) q objects
shows_begun m q objects other shows =
    let s = shows_standing shows (Frame m.activations) other Live in record { live = s.live; holds = s.holds }

module _ (known : Known) (ws : List Wait) (locals : List code.Local) where
  -- what is known in the block
  abbrev pub inside : Known
  inside = record known {
    blocks = record { number = known.entered; objects = map blank_object locals } ∷ known.blocks;
    entered = known.entered + 1;
  }

  entered_agrees : (marks : List Mark) (c : Config) → Agrees known ws marks c
      → Agrees inside (Block ∷ ws) (record { number = c.memory.activations; outside = c } ∷ marks) (in_block (map local_tree locals) c)
  entered_agrees marks c h =
      let m = c.memory in
      let ls = map local_tree locals in
      let a = m.activations in
      let m' = with_objects (Frame a) ls (begun m) in
      let counted : m'.activations ≡ a + 1 = activations_same (Frame a) ls (begun m) in
      let calls : m'.calls ≡ m.calls = calls_same (Frame a) ls (begun m) in
      let still : (q : Region) (objects : List (List Slot)) → same_region q (Frame a) ≡ false → Shows m q objects → Shows m' q objects =
      λ q objects other shows. shows_objects q (Frame a) objects other ls (begun m) (shows_begun m q objects other shows) in
      record {
        temps = h.temps;
        fresh = record {
          empty = λ k le. objects_other (Frame k) (Frame a) (other_number k a (omega (arith, le, counted))) ls (begun m)
              ∙ h.fresh.empty k (omega (arith, le, counted));
          missing = λ k i cell j le. parts_other (Frame k) (Frame a) (other_number k a (omega (arith, le, counted))) i cell j ls (begun m)
              ∙ h.fresh.missing k i cell j (omega (arith, le, counted));
          no_values = λ k le. objects_other (Own k) (Frame a) refl ls (begun m)
              ∙ h.fresh.no_values k (omega (arith, le, calls));
          no_value = λ k i cell j le. parts_other (Own k) (Frame a) refl i cell j ls (begun m)
              ∙ h.fresh.no_value k i cell j (omega (arith, le, calls));
        };
        globals = still (Born 0) known.globals refl h.globals;
        nested = (
          refl,
          sym h.entered,
          omega (arith, counted),
          all_shown (Frame a) locals (begun m) []
              (record {
                live = ap (λ b. is_live (if b then Live else m.standing (Frame a))) (region_self (Frame a));
                holds = λ i k j. h.fresh.missing a i k j (omega arith);
              })
              (h.fresh.empty a (omega arith)),
          nested_still m m' a a c.blocks known.base known.blocks ws marks (omega arith)
              (λ k objects below shows. still (Frame k) objects (other_number k a (omega (arith, below))) shows) h.nested,
        );
        entered = ap (λ n. n + 1) h.entered ∙ sym counted;
        live = λ k gone.
            let other : nat_eq known.entered k ≡ false = not_first known.entered k (position_of known.blocks k) gone in
            let apart : nat_eq k a ≡ false = let e = h.entered in grind (arith, nat_tests, other, e) in
            ap is_live (standing_same (Frame a) ls (begun m) (Frame k) ∙ ap (λ b. if b then Live else m.standing (Frame k)) apart)
            ∙ h.live k (not_later known.entered k (position_of known.blocks k) gone);
        owned = owned_still m m' m.calls m'.calls c.own known.owns ws marks (omega (arith, calls))
            (λ k objects below shows. still (Own k) objects refl shows) h.owned;
        called = h.called ∙ sym calls;
        values_live = λ k gone. ap is_live (standing_same (Frame a) ls (begun m) (Own k)) ∙ h.values_live k gone;
        born = born_kept (begun m) m' known.globals known.regions known.long_blocks
            (born_kept m (begun m) known.globals known.regions known.long_blocks h.born
            (record { births = refl; standing = λ d. refl; objects = λ d. refl; parts = λ d i k j. refl }))
            (objects_keep (Frame a) ls (begun m) (λ d. refl));
      }

  pub block_enters : (body : Statements) → IsMove (Execute (core.Block (map local_tree locals) body)) ws known (Go (Follow body)) (Block ∷ ws) inside
  block_enters body = record {
    still = all_stand _ ws known (Go (Follow body)) (Block ∷ ws) inside (λ main marks c h.
        goes_here main (record { number = c.memory.activations; outside = c } ∷ marks) (in_block (map local_tree locals) c) _ (Go (Follow body))
        (Block ∷ ws) inside
        (entered_agrees marks c h) refl);
    fewer = omega arith;
  }

-- ---- a block is left

-- what is known outside of the block
abbrev pub outside_of : Known → Known
outside_of known = record known { blocks = drop 1 known.blocks }

left_goes : (exit : Exit) (ws : List Wait) (known : Known) (blocks : List Activation) → known.blocks ≡ blocks → (main : ℕ) (marks : List Mark) (c : Config)
    → Holds c.temps known.temps → IsFresh c.memory → Shows c.memory (Born 0) known.globals → known.entered ≡ c.memory.activations
    → AreAllLive c.memory blocks → AreNested c.memory c.memory.activations c.blocks known.base blocks (Block ∷ ws) marks
    → AreOwned c.memory c.memory.calls c.own known.owns (Block ∷ ws) marks → known.called ≡ c.memory.calls → AreAllOwned c.memory known.owns
    → AreBorn c.memory known.globals known.regions known.long_blocks
    → Stands main (rest_of main (Block ∷ ws) marks exit c) (Go (Leave exit)) ws (record known { blocks = drop 1 blocks })
left_goes exit ws known blocks is main [] c temps fresh globals entered live nested owned called values_live born = absurd nested
left_goes exit ws known [] is main (mark ∷ marks) c temps fresh globals entered live nested owned called values_live born = absurd nested
left_goes exit ws known (b ∷ blocks) is main (mark ∷ marks) c temps fresh globals entered live (same, number, below, shows, rest) owned called
    values_live born =
    let m' = with_standing c.memory (Frame mark.number) Dead in
    goes_here main marks (out_of_block mark.number mark.outside.blocks c) _ (Go (Leave exit)) ws (record known { blocks = blocks })
    (record {
      temps = temps;
      fresh = record { empty = fresh.empty; missing = fresh.missing; no_values = fresh.no_values; no_value = fresh.no_value };
      globals = shows_standing globals (Frame mark.number) refl Dead;
      nested = nested_still c.memory m' mark.number c.memory.activations mark.outside.blocks known.base blocks ws marks (omega (arith, below))
          (λ k os less s. shows_standing s (Frame mark.number) (other_number k mark.number (omega (arith, less))) Dead) rest;
      entered = entered;
      live = λ k gone. ended k (nat_eq k mark.number) refl gone;
      owned = owned_still c.memory m' c.memory.calls c.memory.calls c.own known.owns ws marks (omega arith)
          (λ k os less s. shows_standing s (Frame mark.number) refl Dead) owned;
      called = called;
      values_live = values_live;
      born = born_kept c.memory m' known.globals known.regions known.long_blocks born
          (record { births = refl; standing = λ d. refl; objects = λ d. refl; parts = λ d i k j. refl });
    }) refl
  where
    ended : (k : ℕ) (t : Bool) → nat_eq k mark.number ≡ t → position_of blocks k ≡ None
        → is_live (if nat_eq k mark.number then Dead else c.memory.standing (Frame k)) ≡ false
    ended k true e gone = ap (λ b. is_live (if b then Dead else c.memory.standing (Frame k))) e
    ended k false e gone =
        let other : nat_eq b.number k ≡ false = grind (arith, nat_tests, e, number) in
        ap (λ b. is_live (if b then Dead else c.memory.standing (Frame k))) e
        ∙ live k (ap (λ t. if t then Some 0 else option_map suc (position_of blocks k)) other ∙ ap (option_map suc) gone)

pub block_leaves : (exit : Exit) (ws : List Wait) (known : Known) → IsMove (Leave exit) (Block ∷ ws) known (Go (Leave exit)) ws (outside_of known)
block_leaves exit ws known = record {
  still = all_stand (Go (Leave exit)) (Block ∷ ws) known (Go (Leave exit)) ws (outside_of known) (λ main marks c h.
      left_goes exit ws known known.blocks refl main marks c h.temps h.fresh h.globals h.entered h.live h.nested h.owned h.called h.values_live h.born);
  fewer = omega arith;
}

-- A unique block is made: a region of one object, whose right the pointer carries.
use Rattle.std.proofs.Common.{◌≡◌, ℕ, suc, ◌+◌, ◌<◌, Bool, true, false, ◌⊎◌, inl, inr, List, [], ◌∷◌, Some, refl, sym, ◌∙◌, ap, subst, arith, ◌≤◌}
use Rattle.std.specs.Prelude.{map, ◌&&◌, if◌then◌else◌}
use Rattle.cyc_words.specs.Events.{UniqueAlloc}
use Rattle.source_meaning.specs.Shapes.{NeverNull}
use Rattle.source_meaning.specs.Memory as memory
use Rattle.source_meaning.specs.Memory.{Region, Born, Spot, Scalar, Object, Live, Memory, same_region, with_object, next_spot, is_live, state_is_live}
use Rattle.source_meaning.specs.Memory.{blank_object, State}
use Rattle.source_meaning.specs.Steps.{Act, ◌>>=◌, ◌>>◌, give, Scope}
use Rattle.source_meaning.specs.Values.{write_cells}
use Rattle.source_meaning.specs.Making.{AsUnique, ask, make_object}
use Rattle.source_meaning.proofs.Cases.{region_is, region_itself}
use Rattle.source_typing.specs.Types.{StaticType, Unique, is_integer, is_makeable, renamed, shape_of}
use Rattle.source_meaning.specs.Shapes.{Alone, Shape, ThinShape}
use Rattle.source_meaning.specs.Conversions.{cells_of, size_of}
use Rattle.source_meaning.specs.Places.{Sense}
use Rattle.source_meaning.specs.Calls.{made}
use Rattle.source_typing.specs.Making as rules
use Rattle.source_typing.specs.Making.{Goal, ToUnique, made_to}
use Rattle.source_typing.proofs.Inversion.{of_is}
use Rattle.source_typing.specs.Moves.{Use, nothing, value_use}
use Rattle.source_typing.specs.Scope.{Env, Value}
use Rattle.source_typing.specs.States.{States, Passed, then_passed}
use Rattle.source_typing.specs.Verdicts.{Of, after, if_fits}
use Rattle.type_proof.specs.Flat.{Tables, flat}
use Rattle.type_proof.proofs.invariant.Facts.{if_cases, at_region}
use Rattle.type_proof.proofs.invariant.Invariant.{RunType, heap, Owner, Nobody, Flying, InCell, Reached, Ghost, Laid, HaveTypes, Steady, ByScope, StateOk}
use Rattle.type_proof.proofs.invariant.Invariant.{Known, Inv, Grows}
use Rattle.type_proof.proofs.invariant.Values.{values_kept}
use Rattle.type_proof.proofs.invariant.Moves.{passing, inv_cells, cell_kept}
use Rattle.type_proof.proofs.invariant.Births.{Births, bearing, with_birth, inv_birth}
use Rattle.type_proof.proofs.invariant.Scopes.{born_births}
use Rattle.type_proof.proofs.invariant.Objects.{inv_object, grows_object, blank_from, runs_fill, full_laid}
use Rattle.type_proof.proofs.invariant.Growth.{grows_birth, grows_cells, grows_trans}
use Rattle.type_proof.proofs.invariant.Runs.{Safe, Runs, runs_check}
use Rattle.type_proof.proofs.invariant.After.{After, flying, grows_base, runs_show}
use Rattle.type_proof.proofs.invariant.Arguments.{Agrees}
use Rattle.type_proof.proofs.invariant.Names.{NameOf}
use Rattle.type_proof.proofs.invariant.Scenes.{Scene, scene_later, stands_kept}
use Rattle.type_proof.proofs.invariant.Sound.{cells_type, shape_renamed, Gives, Sound, passed_second}
use Rattle.type_proof.proofs.expressions.Words.{IsObjectType, object_some}
use Rattle.type_proof.proofs.expressions.WordRules.{Valued, value_of}
use Rattle.type_proof.proofs.expressions.Forms.{Denotes, Refuses, denotes_refused, denotes_value}
use Rattle.type_proof.proofs.expressions.Makings.{makeable_object}
use Rattle.type_proof.proofs.expressions.Gathered.{joins, joins_class, others_stay, this_comes, carried}

-- only the heap outlives it
abbrev pub above_block : Region → Region → Bool
above_block r q = (if same_region q r then true else same_region q heap)

pub block_births : (d : Tables) (w : Ghost) (m : Memory) (st : State) (o : Owner) (f : Bool) → Inv d w m → StateOk o f st
    → Births w m m.activations (m.births + 1) (Born m.births) st (above_block (Born m.births)) o f
block_births d w m st o f i ok =
    let z = born_births d w m i in record {
      new = z.new;
      here = z.here;
      more = z.more;
      only = z.only;
      ok = ok;
      up_itself = ap (λ (x : Bool). if x then true else same_region r heap) (region_itself r);
      up_heap = if_cases (same_region heap r) true (same_region heap heap) (λ x. x ≡ true) (λ e. refl) (λ e. region_itself heap);
      up_live = λ q e n. ap m.state (is_heap q e n) ∙ i.heap_lives;
      up_steady = λ q e n. subst Steady (sym (ap w.owner (is_heap q e n) ∙ i.heap_is_free)) ByScope;
      up_along = λ p q v e n.
          let h : p ≡ heap = i.top p (subst (λ (x : Region). w.above p x ≡ true) (is_heap q e n) v) in
          subst (λ (x : Region). above_block r x ≡ true) (sym h)
          (if_cases (same_region heap r) true (same_region heap heap) (λ x. x ≡ true) (λ e2. refl) (λ e2. region_itself heap));
      up_sole = λ q ne e n. is_heap q e n;
      framed = λ j e. absurd cc;
    }
  where
    r : Region
    r = Born m.births

    is_heap : (q : Region) → above_block r q ≡ true → (q ≡ r → ⊥) → q ≡ heap
    is_heap q e n = if_cases (same_region q r) true (same_region q heap) (λ x. x ≡ true → q ≡ heap) (λ z v. absurd (n (region_is q r z)))
        (λ z v. region_is q heap v) e

-- the value is on its way, the block is asked for, and the value comes into it
pub unique_made : (d : Tables) (n k b : ℕ) (w : Ghost) (m : Memory) (t : RunType) (bytes : ℕ) (vs : List Scalar) → Inv d w m
    → HaveTypes d w (flying k 0) vs (flat heap d t)
    → Runs n (ask AsUnique bytes (blank_object (map shape_of (flat heap d t))) >>= λ s. write_cells s vs >> give (memory.Thin (Some s) ∷ [])) m
    (λ us. After d k b w m (λ w' m'. HaveTypes d w' (flying k 0) us (Unique false t ∷ [])))
unique_made d n k b w m t bytes vs i typed = record {
  by = λ next q. (runs_show n (UniqueAlloc m.births bytes) (make_object r o >>= λ s. write_cells s vs >> rest s) m1 post
      (record {
        by = λ next1 q1. (runs_check n (is_live m1 r) (λ next2 m3. (write_cells at vs >> rest at) next2 m2) m1 post (ap state_is_live lives)
            (record { by = λ next2 q2. fill.by next2 q2 })).by next1 q1;
      })).by next q;
}
  where
    ts : List RunType
    ts = flat heap d t

    o : Object
    o = blank_object (map shape_of ts)

    rest : Spot → Act (List Scalar)
    rest s = give (memory.Thin (Some s) ∷ [])

    post : List Scalar → Memory → Type 0
    post us = After d k b w m (λ w' m'. HaveTypes d w' (flying k 0) us (Unique false t ∷ []))

    r : Region
    r = Born m.births

    births : Births w m m.activations (m.births + 1) r Live (above_block r) (Flying (suc k) 0) false
    births = block_births d w m Live (Flying (suc k) 0) false i refl

    w1 : Ghost
    w1 = bearing w r (above_block r) (Flying (suc k) 0) false

    m1 : Memory
    m1 = with_birth m m.activations (m.births + 1) r Live

    i1 : Inv d w1 m1
    i1 = inv_birth d w m m.activations (m.births + 1) r Live (above_block r) (Flying (suc k) 0) false i births

    g1 : Grows k b w m w1 m1
    g1 = grows_birth d k b w m m.activations (m.births + 1) r Live (above_block r) (Flying (suc k) 0) false i births (λ e. cc)

    new : Known m r → ⊥
    new = births.new

    owned : w1.owner r ≡ Flying (suc k) 0
    owned = ap (λ (x : Bool). if x then Flying (suc k) 0 else w.owner r) (region_itself r)

    unkeyed : w1.keyed r ≡ false
    unkeyed = ap (λ (x : Bool). if x then false else w.keyed r) (region_itself r)

    lives : m1.state r ≡ Live
    lives = ap (λ (x : Bool). if x then Live else m.state r) (region_itself r)

    at : Spot
    at = next_spot m1 r

    m2 : Memory
    m2 = with_object m1 r o

    i2 : Inv d w1 m2
    i2 = inv_object d w1 m1 r o i1 lives

    there : at.object < m2.objects at.region
    there = at_region m1.objects r (m1.objects r + 1) r (λ x. m1.objects r < x) (λ e. omega arith) (λ e. absurd (e refl))

    here : at ≡ record { region = r; object = 0; cell = 0 }
    here = ap (λ (x : ℕ). record { region = r; object = x; cell = 0 }) (i.empty r new)

    -- what is on its way is there already
    kept : HaveTypes d w1 (flying k 0) vs ts
    kept = values_kept d w w1 (flying k 0) (flying k 0) vs ts (λ j. record {
      types = λ s u e. e;
      above = g1.above;
      owner = λ c e. at_region w.owner r (Flying (suc k) 0) (Born c) (λ z. z ≡ flying k 0 j)
          (λ z. absurd (let a : w.owner r ≡ Nobody = i.unowned r new in let y : w.owner r ≡ flying k 0 j = sym (ap w.owner z) ∙ e in
          let x : Nobody ≡ flying k 0 j = sym a ∙ y in cc)) (λ z. e);
      keyed = λ c e. at_region w.keyed r false (Born c) (λ z. z ≡ w.keyed (Born c))
          (λ z. absurd (let a : w.owner r ≡ Nobody = i.unowned r new in let y : w.owner r ≡ flying k 0 j = sym (ap w.owner z) ∙ e in
          let x : Nobody ≡ flying k 0 j = sym a ∙ y in cc)) (λ z. refl);
    }) typed

    fill : Runs n (write_cells at vs >> rest at) m2 post
    fill = runs_fill d n k b 0 (λ u. Reached u) w1 w1 m1 m2 at ts vs (rest at) post (λ u. refl) i2 lives (omega arith) there
        (blank_from d w1 m1 r o 0 ts i1 (λ j. ap o (omega arith))) kept (grows_object d k b w1 m1 r o i1)
        (λ w3 m3 i3 g3 full st os older types settles.
        let w4 : Ghost = passing (joins (suc k) k 0) w3 in
        let i4 : Inv d w4 m3 = inv_cells d w3 m3 (joins (suc k) k 0) m3.cells i3 (joins_class (suc k) k 0)
        (λ s q e. cell_kept d w3 w4 s (m3.cells s) q (carried w3 (suc k) k 0 (InCell s) (InCell s) refl) (i3.cells s q e)) in
        let g4 : Grows k b w3 m3 w4 m3 = grows_cells k b w3 m3 (joins (suc k) k 0) m3.cells (joins_class (suc k) k 0)
        (λ c x l. others_stay (suc k) k 0 c x (λ e. omega (arith, l, e))) (λ c. refl) (λ s u x p l e. refl) (λ s e. refl) in
        let flies : w3.owner r ≡ Flying (suc k) 0 = settles.flights r (suc k) 0 (λ e. omega (arith, e)) owned in
        record {
          by = λ next q. q (memory.Thin (Some at) ∷ []) m3 (record {
            ghost = w4;
            inv = i4;
            grows = grows_trans g1 (grows_trans g3 g4);
            holds = (
              inr (record {
                block = m.births;
                is = ap (λ (s : Spot). memory.Thin (Some s)) here;
                reaches = record {
                  typed = subst (λ (s : Spot). Laid w4 s ts) here (full_laid w3 m3 at ts vs full);
                  above = i4.itself r (g3.known r births.here);
                };
                owner = ap (joins (suc k) k 0) flies ∙ this_comes (suc k) k 0 0 ∙ ap (Flying k) (omega arith);
                unkeyed = settles.keyed r ∙ unkeyed;
              }),
              tt,
            );
          });
        })

-- ---- `rnew(unique_region) e`

pub made_alone : (c : Bool) (at : ℕ) (t : StaticType) (v : Value) → after (if_fits c at t) (made_to at ToUnique) ≡ Of v → (c ≡ true) × Valued v (Unique false t)
made_alone true at t v e = (refl, value_of at (Unique false t) v e)
made_alone false at t v e = absurd cc

-- an array is made in no unique region
pub no_array_alone : (at : ℕ) (x : Goal) (c a v : Value) → Of ToUnique ≡ Of x → rules.array_made at x (c, a) ≡ Of v → ⊥
no_array_alone at x c a v e z =
    by (is_integer c.type && is_makeable a.type) (subst (λ (y : Goal). rules.array_made at y (c, a) ≡ Of v) (sym (of_is ToUnique x e)) z)
  where
    by : (fits : Bool) → after (if_fits fits at a.type) (rules.array_to at ToUnique) ≡ Of v → ⊥
    by true q = cc
    by false q = cc

module _ (n : ℕ) (d : Tables) (g : Env) (scope : Scope) (f : NameOf → Region) (b : ℕ) (low : ℕ) where
  gives_unique : (s s2 : States) (t : StaticType) (e : Sense) → Agrees scope.world d → e.shape ≡ shape_of t → Gives n d g scope f b low s s2 t e.value
      → Gives n d g scope f b low s s2 (Unique false t) (made scope.world (give AsUnique) Alone e).value
  gives_unique s s2 t e agrees shape gives = λ k w m i x. record {
    by = λ next q. (gives k w m i x).by (λ vs. (stored (blank_object (cells_of scope.world e.shape)) vs) next) (λ vs m1 y.
        let x1 : Scene d g scope f b low s2 k y.ghost m1 = scene_later d g scope f b low s s2 k w m y.ghost m1 y.inv y.grows y.holds.1 x in
        subst (λ (cs : List Shape). Safe n (stored (blank_object cs) vs next m1)) (sym cells)
        ((unique_made d n k m1.activations y.ghost m1 (renamed f t) (size_of scope.world e.shape) vs y.inv y.holds.0).by next (λ us m2 z. q us m2 (record {
          ghost = z.ghost;
          inv = z.inv;
          grows = grows_trans y.grows (grows_base x1.base z.grows);
          holds = (z.holds, stands_kept d g scope f b low s2 k y.ghost m1 z.ghost m2 x1 z.grows);
        }))));
  }
    where
      stored : Object → List Scalar → Act (List Scalar)
      stored o vs = ask AsUnique (size_of scope.world e.shape) o >>= λ s. write_cells s vs >> give (memory.Thin (Some s) ∷ [])

      cells : cells_of scope.world e.shape ≡ map shape_of (cells_type d f t)
      cells = ap (cells_of scope.world) (shape ∙ sym (shape_renamed f t)) ∙ agrees (renamed f t)

  pub denotes_unique : b ≤ low → (at : ℕ) (p : States → Passed) (a v : Value) (u : Use) (e : Sense) → Agrees scope.world d → ((s : States) → p s ≡ nothing s)
      → Denotes n d g scope f b low a u e → rules.made at ToUnique a ≡ Of v
      → Denotes n d g scope f b low v (value_use (λ s. then_passed (p s) u.value)) (made scope.world (give AsUnique) Alone e)
  denotes_unique is at p a v u e agrees none h j = by h.sound
    where
      z : (is_makeable a.type ≡ true) × Valued v (Unique false a.type)
      z = made_alone (is_makeable a.type) at a.type v j

      it : IsObjectType a.type
      it = makeable_object a.type h.simple z.0

      here : (s : States) → (p s).states ≡ s
      here s = ap (λ (q : Passed). q.states) (none s)

      by : Sound n d g scope f b low a u h.own e ⊎ Refuses n d g scope f b low u
          → Denotes n d g scope f b low v (value_use (λ s. then_passed (p s) u.value)) (made scope.world (give AsUnique) Alone e)
      by (inr y) = denotes_refused n d g scope f b low v (λ s. then_passed (p s) u.value) (Unique false a.type)
          (made scope.world (give AsUnique) Alone e) it h.below
          z.1 (λ s q. y.value (p s).states (passed_second p u.value s q))
      by (inl y) =
          let shape : e.shape ≡ shape_of a.type = y.shape (object_some a.type it) in
          denotes_value n d g scope f b low v (λ s. then_passed (p s) u.value) (Unique false a.type) (ThinShape (NeverNull 1) Alone e.shape) _ it h.below z.1
          (ap (ThinShape (NeverNull 1) Alone) shape)
          (λ s q. subst (λ (s1 : States). Gives n d g scope f b low s1 (u.value (p s).states).states (Unique false a.type)
          (made scope.world (give AsUnique) Alone e).value) (here s)
          (gives_unique (p s).states (u.value (p s).states).states a.type e agrees shape (y.value is (p s).states (passed_second p u.value s q))))

-- Arrays that `new` and `rnew` make: their elements are evaluated and stored one after another, and each takes a unit.
use Rattle.std.proofs.Common.{◌≡◌, ℕ, suc, ◌≤◌, Bool, true, false, ◌⊎◌, inl, inr, Option, Some, List, [], ◌∷◌, refl, sym, ◌∙◌, ap, subst}
use Rattle.std.specs.Prelude.{◌*◌, ◌&&◌, length, map}
use Rattle.std.proofs.lemmas.Bool.{and_parts}
use Rattle.std.proofs.lemmas.List.{length-map}
use Rattle.cyc_words.specs.Events.{RegionAlloc}
use Rattle.cyc_tree.specs.Tree as tree
use Rattle.source_meaning.specs.Shapes.{Shape, FatShape}
use Rattle.source_meaning.specs.Memory as memory
use Rattle.source_meaning.specs.Memory.{Region, Born, Spot, Scalar, Live, Memory, array_of, blank_cell, next_spot, state_is_live, with_object}
use Rattle.source_meaning.specs.Steps.{Scope, Act, give, ◌>>=◌, ◌>>◌, show}
use Rattle.source_meaning.specs.Conversions.{cells_of, size_of, one, integer}
use Rattle.source_meaning.specs.Making.{Maker, InRegion, make_object, ask, saturated}
use Rattle.source_meaning.specs.Places.{Sense, span_at}
use Rattle.source_meaning.specs.Calls.{index_in, index_made, elements, array_made}
use Rattle.source_meaning.specs.Regions.{in_block}
use Rattle.source_typing.specs.Converts.{IsInteger}
use Rattle.source_typing.specs.Making as rules
use Rattle.source_typing.specs.Making.{To, with_counter}
use Rattle.source_typing.specs.Moves.{Use, value_use, elements_passed, without_first}
use Rattle.source_typing.specs.Scope.{Env, Value}
use Rattle.source_typing.specs.States.{Plain, States, Passed, then_passed, loop_head}
use Rattle.source_typing.specs.Types.{StaticType, Fat, is_integer, is_makeable, renamed, shape_of}
use Rattle.source_typing.specs.Verdicts.{Of, after, if_fits}
use Rattle.source_typing.specs.Named.{Below}
use Rattle.flow_summaries.specs.Effects.{Effects, effects_below}
use Rattle.flow_summaries.specs.Laws.{DoesAs, way_after}
use Rattle.flow_summaries.specs.Passages.{Passage}
use Rattle.flow_summaries.proofs.Effects.{without_more}
use Rattle.type_proof.specs.Flat.{Tables}
use Rattle.type_proof.proofs.invariant.Invariant.{Ghost, HaveTypes, Inv, Grows}
use Rattle.type_proof.proofs.invariant.Growth.{grows_refl, grows_trans}
use Rattle.type_proof.proofs.invariant.Runs.{Safe, Runs, runs_check}
use Rattle.type_proof.proofs.invariant.After.{After, flying, runs_show}
use Rattle.type_proof.proofs.invariant.Rows.{laid_all}
use Rattle.type_proof.proofs.invariant.Filling.{runs_object}
use Rattle.type_proof.proofs.invariant.Heads.{head_kept, head_stands}
use Rattle.type_proof.proofs.invariant.Arguments.{Agrees}
use Rattle.type_proof.proofs.invariant.Names.{NameOf}
use Rattle.type_proof.proofs.invariant.Standing.{ApartFrom, Standing, all_met_second, are_kinds}
use Rattle.type_proof.proofs.invariant.Scenes.{Scene, scene_later}
use Rattle.type_proof.proofs.invariant.Sound.{shape_renamed, cells_type, Gives, Shows, Sound, passed_first, passed_second}
use Rattle.type_proof.proofs.expressions.Words.{IsObjectType, object_some}
use Rattle.type_proof.proofs.expressions.WordRules.{Valued, value_of}
use Rattle.type_proof.proofs.expressions.ElementLoops.{GivesElement, runs_indexed}
use Rattle.type_proof.proofs.expressions.Elements.{all_elements}
use Rattle.type_proof.proofs.expressions.Operands.{runs_word}
use Rattle.type_proof.proofs.expressions.Counters.{counted_scope, scene_counter, counter_left}
use Rattle.type_proof.proofs.expressions.Makings.{Aims, Lives, makeable_object}
use Rattle.type_proof.proofs.expressions.Forms.{Denotes, Refuses, denotes_refused, denotes_value}

-- an array that is made in the region of a name
pub array_there : (c : Bool) (at : ℕ) (r : NameOf) (t : StaticType) (v : Value) → after (if_fits c at t) (rules.array_to at (To r)) ≡ Of v → (c ≡ true)
    × Valued v (Fat r t)
array_there true at r t v e = (refl, value_of at (Fat r t) v e)
array_there false at r t v e = absurd cc

module _ (n : ℕ) (d : Tables) (g : Env) (scope : Scope) (f : NameOf → Region) (b : ℕ) (low : ℕ) where
  -- ---- an array is made

  -- memory is asked for once the count is there, and filled then
  pub gives_filled : (s0 s1 s2 s3 : States) (t u : StaticType) (r : NameOf) (to : Act Maker) (count : Sense) (element : ℕ → Sense) → Agrees scope.world d
      → Lives n d g scope f b low r → Below g.regions.count r → (element 0).shape ≡ shape_of t → IsInteger u → Aims n d g scope f b low s0 s1 r to
      → Shows n d g scope f b low s1 s2 u count.look → ((w : Ghost) (m : Memory) → Standing d g scope f s2 w m → Standing d g scope f s3 w m)
      → ((w : Ghost) (m : Memory) → Standing d g scope f s3 w m → (a : ℕ) → low ≤ a → ApartFrom (index_in a) scope.locals
      → GivesElement n d g scope f b low a s3 t (element a).value)
      → Gives n d g scope f b low s0 s3 (Fat r t) (array_made scope.world to count element).value
  gives_filled s0 s1 s2 s3 t u r to count element agrees live below shape it aims shows enter gives = λ k w m i x. record {
    by = λ next q. (aims k w m i x).by (λ to. counted to next) (λ to m1 y.
        let x1 : Scene d g scope f b low s1 k y.ghost m1 = scene_later d g scope f b low s0 s1 k w m y.ghost m1 y.inv y.grows y.holds.1 x in
        subst (λ (p : Maker). Safe n (counted p next m1)) (sym y.holds.0.is)
        ((runs_word n d g scope f b low s1 s2 u count.look (λ v. integer v >>= λ c. filled (InRegion y.holds.0.birth) c) k y.ghost m1
        (post k w m) it shows y.inv x1
        (λ c p w2 m2 e2 i2 g2 x2. record {
          by = λ next2 q2. (made k w m y.holds.0.birth p w2 m2 i2 (grows_trans y.grows g2) y.holds.0.region
              (scene_later d g scope f b low s2 s3 k w2 m2 w2 m2 i2 (grows_refl k b w2 m2) (enter w2 m2 x2.stands) x2)).by next2 q2;
        })).by next q));
  }
    where
      sizes : List Shape
      sizes = cells_of scope.world (element 0).shape

      filled : Maker → ℕ → Act (List Scalar)
      filled to c = ask to (saturated (c * size_of scope.world (element 0).shape)) (array_of c (map blank_cell sizes)) >>= λ s.
          in_block (λ a. index_made a >> elements (length sizes) c 0 s (index_in a) (element a)) >> give (span_at c s ∷ [])

      counted : Maker → Act (List Scalar)
      counted to = count.look >>= one >>= integer >>= λ c. filled to c

      post : ℕ → Ghost → Memory → List Scalar → Memory → Type 0
      post k w m = λ vs. After d k b w m (λ w' m'. HaveTypes d w' (flying k 0) vs (cells_type d f (Fat r t)) × Standing d g scope f s3 w' m')

      cells : sizes ≡ map shape_of (cells_type d f t)
      cells = ap (cells_of scope.world) (shape ∙ sym (shape_renamed f t)) ∙ agrees (renamed f t)

      made : (k : ℕ) (w : Ghost) (m : Memory) (birth c : ℕ) (w2 : Ghost) (m2 : Memory) → Inv d w2 m2 → Grows k b w m w2 m2 → f r ≡ Born birth
          → Scene d g scope f b low s3 k w2 m2 → Runs n (filled (InRegion birth) c) m2 (post k w m)
      made k w m birth c w2 m2 i2 g2 region x2 =
          let bytes : ℕ = saturated (c * size_of scope.world (element 0).shape) in
          let lives : m2.state (Born birth) ≡ Live = sym (ap m2.state region) ∙ live s3 k w2 m2 i2 x2 in
          subst (λ (cs : List Shape). Runs n (ask (InRegion birth) bytes (array_of c (map blank_cell cs)) >>= λ s.
          in_block (λ a. index_made a >> elements (length cs) c 0 s (index_in a) (element a)) >> give (span_at c s ∷ [])) m2 (post k w m))
          (sym cells)
          (record {
            by = λ next q.
                (runs_check n (memory.is_live m2 (Born birth)) (show (RegionAlloc birth bytes) >>
                (make_object (Born birth) (array_of c (map blank_cell (map shape_of (cells_type d f t)))) >>= rest c)) m2 (post k w m)
                (ap state_is_live lives)
                (runs_show n (RegionAlloc birth bytes) (make_object (Born birth) (array_of c (map blank_cell (map shape_of (cells_type d f t)))) >>= rest c) m2
                (post k w m)
                (runs_object n m2 (Born birth) (array_of c (map blank_cell (map shape_of (cells_type d f t)))) (rest c) (post k w m) lives
                (fills k w m birth c w2 m2 i2 g2 region lives x2)))).by next q;
          })
        where
          rest : ℕ → Spot → Act (List Scalar)
          rest c = λ s. in_block (λ a. index_made a >> elements (length (map shape_of (cells_type d f t))) c 0 s (index_in a) (element a)) >>
              give (span_at c s ∷ [])

          fills : (k : ℕ) (w : Ghost) (m : Memory) (birth c : ℕ) (w2 : Ghost) (m2 : Memory) → Inv d w2 m2 → Grows k b w m w2 m2 → f r ≡ Born birth
              → m2.state (Born birth) ≡ Live → Scene d g scope f b low s3 k w2 m2
              → Runs n (rest c (next_spot m2 (Born birth))) (with_object m2 (Born birth) (array_of c (map blank_cell (map shape_of (cells_type d f t)))))
              (post k w m)
          fills k w m birth c w2 m2 i2 g2 region lives x2 =
              let at : Spot = next_spot m2 (Born birth) in
              let made_there : Memory = with_object m2 (Born birth) (array_of c (map blank_cell (map shape_of (cells_type d f t)))) in
              subst (λ (l : ℕ). Runs n (in_block (λ a. index_made a >> elements l c 0 at (index_in a) (element a)) >> give (span_at c at ∷ [])) made_there
              (post k w m)) (sym (length-map (cells_type d f t) shape_of))
              (record {
                by = λ next q. (runs_indexed n d g scope f b low t r k s3 c birth element w2 m2 live i2 x2 lives region (gives w2 m2 x2.stands)).by
                    (λ u. next (span_at c at ∷ []))
                    (λ u m4 z. q (span_at c at ∷ []) m4 (record {
                      ghost = z.ghost;
                      inv = z.inv;
                      grows = grows_trans g2 z.grows;
                      holds = (
                        (
                          inr (all_elements d z.ghost at c (f r) (renamed f t)
                              (ap (λ (q : Region). z.ghost.above q (f r)) (sym region)
                              ∙ z.inv.itself (f r)
                              ((scene_later d g scope f b low s3 s3 k w2 m2 z.ghost m4 z.inv z.grows z.holds.1 x2).names.known r below))
                              (laid_all z.ghost at c (cells_type d f t) z.holds.0)),
                          tt,
                        ),
                        z.holds.1,
                      );
                    }));
              })

  -- the elements are a loop: each is given from the head of its states, and leaves what implies the head
  pub denotes_filled : b ≤ low → (at : ℕ) (r : NameOf) (to : Act Maker) (p : States → Passed) (x : tree.Name) (c a v : Value) (uc ue : Use) (does : Passage)
      (count : Sense)
      (element : ℕ → Sense) → Agrees scope.world d → Lives n d g scope f b low r → Below g.regions.count r
      → ((s : States) → (p s).faults ≡ [] → Aims n d g scope f b low s (p s).states r to) → Denotes n d g scope f b low c uc count
      → DoesAs (suc (length g.locals)) ue.value does
      → ((i : ℕ) → Denotes n d (with_counter x g) (counted_scope g scope f x i) f b low a ue (element i))
      → rules.array_made at (To r) (c, a) ≡ Of v
      → Denotes n d g scope f b low v (value_use (λ s. then_passed (then_passed (p s) uc.look) (elements_passed ue.value)))
      (array_made scope.world to count element)
  denotes_filled is at r to p x c a v uc ue does count element agrees live below aims hc told h j = by hc.sound (h 0).sound
    where
      turn : States → Option States
      turn s = Some (without_first (ue.value (Plain ∷ s)).states)

      head : States → States
      head s = loop_head s turn

      back : Option Effects
      back = Some (effects_below (length g.locals) does.effects)

      returns : (s : States) → turn s ≡ way_after (length g.locals) back s
      returns s = ap (λ (u : States). Some (without_first u)) (told.states (Plain ∷ s))
          ∙ ap (λ (u : States). Some u) (without_more (length g.locals) does.effects s)

      made : (is_integer c.type && is_makeable a.type ≡ true) × Valued v (Fat r a.type)
      made = array_there (is_integer c.type && is_makeable a.type) at r a.type v j

      fits : (is_integer c.type ≡ true) × (is_makeable a.type ≡ true)
      fits = and_parts (is_integer c.type) (is_makeable a.type) made.0

      it : IsObjectType a.type
      it = makeable_object a.type (h 0).simple fits.1

      act : States → Passed
      act s = then_passed (then_passed (p s) uc.look) (elements_passed ue.value)

      refused : ((s : States) → (act s).faults ≡ [] → ⊥) → Denotes n d g scope f b low v (value_use act) (array_made scope.world to count element)
      refused never = denotes_refused n d g scope f b low v act (Fat r a.type) (array_made scope.world to count element) it (below, (h 0).below) made.1 never

      gives_element : (s : States) → (ue.value (Plain ∷ head s)).faults ≡ [] → (i : ℕ) → low ≤ i → ApartFrom (index_in i) scope.locals
          → GivesElement n d g scope f b low i (head s) a.type (element i).value
      gives_element s none i own apart = λ k w m inv q index counted. record {
        by = λ next go. (element_gives (h i).sound k w m inv (scene_counter g scope f x i d b low (head s) k w m own apart index counted q)).by next
            (λ vs m2 y. go vs m2 (record {
              ghost = y.ghost;
              inv = y.inv;
              grows = y.grows;
              holds = (
                y.holds.0,
                at_head w m q.stands y.ghost m2
                    (counter_left g scope f x i d b low (ue.value (Plain ∷ head s)).states k y.ghost m2 y.holds.1),
              );
            }));
      }
        where
          element_gives : Sound n d (with_counter x g) (counted_scope g scope f x i) f b low a ue (h i).own (element i)
              ⊎ Refuses n d (with_counter x g) (counted_scope g scope f x i) f b low ue
              → Gives n d (with_counter x g) (counted_scope g scope f x i) f b low (Plain ∷ head s) (ue.value (Plain ∷ head s)).states a.type (element i).value
          element_gives (inr y) = absurd (y.value (Plain ∷ head s) none)
          element_gives (inl y) = y.value is (Plain ∷ head s) none

          at_head : (w : Ghost) (m : Memory) → Standing d g scope f (head s) w m → (w2 : Ghost) (m2 : Memory)
              → Standing d g scope f (without_first (ue.value (Plain ∷ head s)).states) w2 m2 → Standing d g scope f (head s) w2 m2
          at_head w m st w2 m2 y =
              subst (λ (t : States). Standing d g scope f t w2 m2)
              (head_kept (length g.locals) turn back returns s (without_first (ue.value (Plain ∷ head s)).states) refl)
              (all_met_second g.tables d f g.locals scope.locals (head s) (without_first (ue.value (Plain ∷ head s)).states) w2 m2
              (are_kinds g.tables d f g.locals scope.locals (head s) w m st) y)

      by : Sound n d g scope f b low c uc hc.own count ⊎ Refuses n d g scope f b low uc
          → Sound n d (with_counter x g) (counted_scope g scope f x 0) f b low a ue (h 0).own (element 0)
          ⊎ Refuses n d (with_counter x g) (counted_scope g scope f x 0) f b low ue
          → Denotes n d g scope f b low v (value_use act) (array_made scope.world to count element)
      by (inr y) z = refused (λ s q. y.look (p s).states
          (passed_second p uc.look s (passed_first (λ y. then_passed (p y) uc.look) (elements_passed ue.value) s q)))
      by (inl y) (inr z) = refused (λ s q. z.value (Plain ∷ head (uc.look (p s).states).states)
          (passed_second (λ y. then_passed (p y) uc.look) (elements_passed ue.value) s q))
      by (inl y) (inl z) =
          let shape : (element 0).shape ≡ shape_of a.type = z.shape (object_some a.type it) in
          denotes_value n d g scope f b low v act (Fat r a.type) (FatShape (element 0).shape) (array_made scope.world to count element).value it
          (below, (h 0).below) made.1 (ap FatShape shape)
          (λ s q.
          let counted : (then_passed (p s) uc.look).faults ≡ [] = passed_first (λ y. then_passed (p y) uc.look) (elements_passed ue.value) s q in
          let s1 : States = (p s).states in
          let s2 : States = (uc.look s1).states in
          gives_filled s s1 s2 (head s2) a.type c.type r to count element agrees live below shape fits.0 (aims s (passed_first p uc.look s counted))
          (y.look s1 (passed_second p uc.look s counted)) (λ w m st. head_stands d g scope f turn back returns s2 w m st)
          (λ w m st. gives_element s2 (passed_second (λ y. then_passed (p y) uc.look) (elements_passed ue.value) s q)))

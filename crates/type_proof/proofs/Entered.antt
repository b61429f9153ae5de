-- A function is called: its body runs in a block of its own, and what it gives is typed for the caller. With more fuel there are more calls and turns.
use Rattle.std.proofs.Common.{◌≡◌, ℕ, zero, suc, ◌<◌, ◌≤◌, Bool, true, false, Some, None, ◌⊎◌, inl, inr, List, [], ◌∷◌, refl, sym, ◌∙◌, ap, subst, arith}
use Rattle.std.specs.Prelude.{map, ◌||◌, if◌then◌else◌}
use Rattle.cyc_words.specs.Events.{Called}
use Rattle.cyc_words.specs.Events as events
use Rattle.source_meaning.specs.Shapes.{Shape}
use Rattle.source_meaning.specs.Memory.{Region, Frame, Born, Scalar, Integer, AsInt, Live, Memory}
use Rattle.source_meaning.specs.Steps.{World, take_turn, Scope, Flow, Falls, Breaks, Continues, Returns, Step, Act, give, ◌>>=◌, ◌>>◌, say}
use Rattle.source_meaning.specs.Regions.{in_block}
use Rattle.source_meaning.specs.Strings.{expression_strings, statement_strings}
use Rattle.source_meaning.specs.Statements.{block_items, loop, statement}
use Rattle.source_meaning.specs.Programs.{entered, with_arguments, result_of, result_at_end, is_main}
use Rattle.source_typing.specs.Scope.{Env, Local, block_entered}
use Rattle.source_typing.specs.Statements.{in_a_loop}
use Rattle.source_typing.specs.Tables as typing
use Rattle.source_typing.specs.Tables.{Signature}
use Rattle.source_typing.specs.Types.{StaticType, Int, Void, renamed, shape_of}
use Rattle.source_typing.specs.Flow.{use_of}
use Rattle.source_typing.specs.Left.{left_by, left_by_items, states_at}
use Rattle.source_typing.specs.States.{States}
use Rattle.source_typing.specs.Ways.{ways_of_items}
use Rattle.source_meaning.specs.Calls.{truth}
use Rattle.source_meaning.specs.Expressions.{sense}
use Rattle.type_proof.specs.Flat.{Tables, flat}
use Rattle.source_typing.specs.Named.{TypesBelow}
use Rattle.type_proof.proofs.invariant.Facts.{at_region, same_here}
use Rattle.type_proof.proofs.invariant.Invariant as invariant
use Rattle.type_proof.proofs.invariant.Invariant.{RunType, heap, Owner, Nobody, Flying, Ghost, HaveTypes, Inv, Grows}
use Rattle.type_proof.proofs.invariant.Values.{Carries, values_kept}
use Rattle.type_proof.proofs.invariant.Moves.{passing}
use Rattle.type_proof.proofs.invariant.Growth.{grows_trans}
use Rattle.type_proof.proofs.invariant.Runs.{Safe, Runs, safe_says, safe_less}
use Rattle.type_proof.proofs.invariant.After.{After, flying, grows_base}
use Rattle.type_proof.proofs.invariant.Scopes.{above_scope, block_ghost, block_memory, runs_block}
use Rattle.type_proof.proofs.invariant.Arguments.{Flown, bound_all, runs_arguments}
use Rattle.type_proof.proofs.invariant.Layouts.{agrees}
use Rattle.type_proof.proofs.invariant.Received.{erased, kept_type}
use Rattle.type_proof.proofs.invariant.Names.{NameOf}
use Rattle.type_proof.proofs.Strings.{found_parts}
use Rattle.type_proof.proofs.invariant.Scenes.{Alike, Globals, Scene, scene_later}
use Rattle.type_proof.proofs.Entries.{Function, Enters, Invokes}
use Rattle.type_proof.proofs.statements.Looped.{surrounds_loop}
use Rattle.type_proof.proofs.statements.Flows.{WaysStand, ReturnOk, Turning}
use Rattle.type_proof.proofs.statements.Ways.{head_leaves, turn_goes}
use Rattle.type_proof.proofs.statements.Unreached.{items_fall_nowhere}
use Rattle.type_proof.proofs.invariant.Standing as standing
use Rattle.type_proof.proofs.invariant.Standing.{Standing}
use Rattle.type_proof.proofs.statements.Statements.{condition_tells}
use Rattle.flow_summaries.specs.Statements.{exits_of}
use Rattle.flow_summaries.proofs.Statements.{exits_told}
use Rattle.type_proof.proofs.statements.Blocks.{items_leave, statement_leaves}
use Rattle.type_proof.proofs.statements.Parameters.{landing, inv_landed, grows_landed, flown_moved, with_all, beginning, all_shaped, types_alike, types_up}
use Rattle.type_proof.proofs.statements.Parameters.{AllBound, all_bound, kept_parameter, with_all_tables}
use Rattle.type_proof.proofs.statements.Functions.{FunctionJudged, Sources, entry_scope, entry_names, count_is, variables_alike, surrounds_entry, scene_entry}

module _ (n : ℕ) (d : Tables) (world : World) (tables : typing.Tables) (sources : Sources d world tables) (invokes : Invokes n d world tables)
    (turns : Turning n d world tables) (x : List ℕ) (s : Signature) (F : Function world x s) (judged : FunctionJudged world tables x s F)
    (h : NameOf → Region)
  where
    -- the scope of the parameters
    abbrev inner : Env
    inner = with_all F.routine.parameters F.types (block_entered judged.outside)

    -- what the body is left with
    abbrev Left : Flow → Ghost → Type 0
    Left Falls w = (ways_of_items F.routine.body).falls ≡ true
    Left Breaks w = (judged.outside.in_loop || judged.outside.in_switch ≡ true)
    Left Continues w = judged.outside.in_loop ≡ true
    Left (Returns vs) w = ReturnOk d (renamed h F.gives) vs w

    -- by the way on which it is left
    left_with : (scope : Scope) (f : NameOf → Region) (s : States) → inner.in_loop ≡ judged.outside.in_loop → inner.in_switch ≡ judged.outside.in_switch
        → (flow : Flow) (w : Ghost) (m : Memory)
        → WaysStand d (renamed h F.gives) inner scope f (left_by_items inner F.routine.body s) flow w m → Left flow w
    left_with scope f s a c Falls w m y = by (ways_of_items F.routine.body).falls refl
      where
        by : (t : Bool) → (ways_of_items F.routine.body).falls ≡ t → t ≡ true
        by true e = refl
        by false e = absurd (let z : None ≡ Some y.0 = sym (items_fall_nowhere F.routine.body inner s e) ∙ y.1 in cc)
    left_with scope f s a c Breaks w m y = subst (λ z. z || judged.outside.in_switch ≡ true) a (subst (λ z. inner.in_loop || z ≡ true) c y.1)
    left_with scope f s a c Continues w m y = subst (λ z. z ≡ true) a y.1
    left_with scope f s a c (Returns vs) w m y = y

    pub runs_entered : (k b : ℕ) (w : Ghost) (m : Memory) (vss : List (List Scalar)) → b ≤ m.activations → Inv d w m → Globals d tables world w
        → Enters s h k w m → Flown d w k vss (map (renamed h) F.types)
        → Runs n (entered F.routine world vss) m (λ us. After d k b w m (λ w' m'. HaveTypes d w' (flying k 0) us (flat heap d (renamed h F.gives))))
    runs_entered k b w m vss below i globals enters flown = record {
      by = λ next q. safe_says n (Called F.routine.name) _
          (block.by (λ flow. (result_of F.routine flow >>= λ us. say (events.Returned F.routine.name) >> give us) next) (λ flow m' y. leaves next q flow m' y));
    }
      where
        a0 : ℕ
        a0 = m.activations

        w1 : Ghost
        w1 = block_ghost w m

        m1 : Memory
        m1 = block_memory m

        start : Scope
        start = entry_scope d world tables sources x s F judged h enters.heap_is a0

        f0 : NameOf → Region
        f0 = entry_names d world tables sources x s F judged h enters.heap_is a0

        g0 : Env
        g0 = block_entered judged.outside

        alike : Alike s.regions h f0
        alike = variables_alike d world tables sources x s F judged h enters.heap_is a0

        takes_below : TypesBelow g0.regions.count F.types
        takes_below = types_up judged.outside.regions.count F.types
            (subst (λ (c : ℕ). TypesBelow c F.types) (sym (count_is d world tables sources x s F judged h enters.heap_is a0)) judged.takes_below)

        carry : (o : Owner) → (o ≡ Nobody → ⊥) → Carries w w1 o o
        carry o some = record {
          types = λ y u e. e;
          above = λ p y e. at_region (λ z. w.above p y) (Frame a0) (above_scope w m (Frame a0) p) y (λ z. z ≡ true)
              (λ z. absurd (fresh (subst (λ (r : Region). invariant.Known m r) z (i.born_lower p y e)))) (λ z. e);
          owner = λ c e. at_region w.owner (Frame a0) Nobody (Born c) (λ z. z ≡ o) (λ z. absurd cc) (λ z. e);
          keyed = λ c e. at_region w.keyed (Frame a0) false (Born c) (λ z. z ≡ w.keyed (Born c)) (λ z. absurd cc) (λ z. refl);
        }
          where
            fresh : m.activations < m.activations → ⊥
            fresh l = omega (arith, l)

        body_at : ℕ → Act Flow
        body_at j = with_arguments F.routine.parameters vss (block_items F.routine.body)
            (record { world = world; locals = []; frame = j; result = F.routine.result })

        no_locals : judged.outside.locals ≡ [] → (w2 : Ghost) (m2 : Memory) → Standing d g0 start f0 (beginning inner judged.outside.locals) w2 m2
        no_locals e w2 m2 = subst (λ (ls : List Local). standing.AllStand judged.outside.tables d f0 ls [] (beginning inner ls) w2 m2) (sym e) tt

        inside : Inv d w1 m1 → Runs n (body_at a0) m1 (λ flow. After d k a0 w1 m1 (λ w' m'. Left flow w'))
        inside i1 = runs_arguments n d world (kept_parameter tables) k a0 a0 F.routine.parameters (map (renamed f0) F.types) vss w1 m1 start
            (block_items F.routine.body)
            (λ flow. After d k a0 w1 m1 (λ w' m'. Left flow w')) (agrees d world tables sources.structs)
            (λ t u. kept_type tables (erased t) u) refl refl
            (all_shaped f0 F.routine.parameters F.types F.shapes) i1
            (same_here (Frame a0) Live (m.state (Frame a0))) (flown_moved d k w w1 vss (map (renamed f0) F.types) carry
            (subst (λ (ts : List RunType). Flown d w k vss ts) (sym (types_alike s.regions h f0 F.types alike judged.takes_below)) flown))
            (λ ss w2 m2 i2 g2 st cells landed.
            let all : AllBound d world tables f0 (renamed h F.gives) a0 inner (with_all_tables F.routine.parameters F.types g0 ∙ judged.tables_are) g0
            (with_all F.routine.parameters F.types g0) start
            (bound_all start F.routine.parameters ss) w2 m2 =
            all_bound d world tables f0 (renamed h F.gives) a0 inner (with_all_tables F.routine.parameters F.types g0 ∙ judged.tables_are)
            (m1.objects (Frame a0)) F.routine.parameters F.types ss vss g0 start w2 m2
            (surrounds_entry d world tables sources x s F judged h enters.heap_is a0) refl F.objects takes_below F.shapes tt landed in
            let first : Scene d g0 start f0 a0 a0 (beginning inner judged.outside.locals) k w1 m1 =
            scene_entry d world tables sources x s F judged h k w m i globals enters inner in
            let scene : Scene d g0 start f0 a0 a0 (beginning inner judged.outside.locals) k w2 m2 =
            scene_later d g0 start f0 a0 a0 (beginning inner judged.outside.locals) (beginning inner judged.outside.locals) k w1 m1 w2 m2 i2 g2
            (no_locals judged.locals w2 m2) first in
            record {
              by = λ next q.
                  (items_leave n d world tables invokes turns a0 (renamed h F.gives) F.routine.body (with_all F.routine.parameters F.types g0)
                  (bound_all start F.routine.parameters ss) f0 all.surrounds judged.body (sources.spelled x F.routine F.found) (states_at inner) judged.flow k
                  w2 m2 i2 (all.scene a0 k scene)).by next
                  (λ flow m3 y. q flow m3 (record {
                    ghost = y.ghost;
                    inv = y.inv;
                    grows = grows_trans g2 y.grows;
                    holds = left_with (bound_all start F.routine.parameters ss) f0 (states_at inner) all.in_loop all.in_switch flow y.ghost m3 y.holds;
                  }));
            })

        block : Runs n (in_block body_at) m (λ flow. After d k a0 w m (λ w' m'. Left flow w'))
        block = runs_block d n k a0 w m body_at (λ flow w' m'. Left flow w') (λ flow w' m'. Left flow w') i inside (λ flow w2 m2 i2 g2 h. h)

        out : (next : List Scalar → Memory → Step)
            → ((us : List Scalar) (m' : Memory) → After d k b w m (λ w' m2. HaveTypes d w' (flying k 0) us (flat heap d (renamed h F.gives))) m'
            → Safe n (next us m'))
            → (m2 : Memory) (w2 : Ghost) → Inv d w2 m2 → Grows k a0 w m w2 m2 → (us : List Scalar) → ReturnOk d (renamed h F.gives) us w2
            → Safe n ((say (events.Returned F.routine.name) >> give us) next m2)
        out next q m2 w2 i2 g2 us typed = safe_says n (events.Returned F.routine.name) (next us m2) (q us m2 (record {
          ghost = passing (landing k) w2;
          inv = inv_landed d k w2 m2 i2;
          grows = grows_trans (grows_base below g2) (grows_landed k b w2 m2);
          holds = values_kept d w2 (passing (landing k) w2) (λ c. invariant.Returned c) (flying k 0) us (flat heap d (renamed h F.gives)) (λ j. record {
            types = λ y u e. e;
            above = λ p y e. e;
            owner = λ c e. ap (landing k) e ∙ ap (Flying k) (omega arith);
            keyed = λ c e. refl;
          }) typed;
        }))

        -- the end of the body
        ended : (next : List Scalar → Memory → Step) (m2 : Memory) (w2 : Ghost) → (F.gives ≡ Void) ⊎ ((is_main F.routine.name ≡ true) × (F.gives ≡ Int))
            → ((us : List Scalar) → ReturnOk d (renamed h F.gives) us w2 → Safe n (next us m2)) → Safe n (result_at_end F.routine F.routine.result next m2)
        ended next m2 w2 (inl e) q =
            subst (λ (y : Shape). Safe n (result_at_end F.routine y next m2)) (sym (F.shape ∙ ap shape_of e))
            (q [] (subst (λ (t : StaticType). ReturnOk d (renamed h t) [] w2) (sym e) tt))
        ended next m2 w2 (inr e) q =
            subst (λ (y : Shape). Safe n (result_at_end F.routine y next m2)) (sym (F.shape ∙ ap shape_of e.1))
            (subst (λ (c : Bool). Safe n ((if c then give (Integer AsInt 0 ∷ []) else Rattle.source_meaning.specs.Steps.stuck) next m2)) (sym e.0)
            (q (Integer AsInt 0 ∷ [])
            (subst (λ (t : StaticType). ReturnOk d (renamed h t) (Integer AsInt 0 ∷ []) w2) (sym e.1) (record { word = 0; is = refl }, tt))))

        leaves : (next : List Scalar → Memory → Step)
            → ((us : List Scalar) (m' : Memory) → After d k b w m (λ w' m2. HaveTypes d w' (flying k 0) us (flat heap d (renamed h F.gives))) m'
            → Safe n (next us m'))
            → (flow : Flow) (m2 : Memory) → After d k a0 w m (λ w' m'. Left flow w') m2
            → Safe n ((result_of F.routine flow >>= λ us. say (events.Returned F.routine.name) >> give us) next m2)
        leaves next q (Returns us) m2 y =
            out next q m2 y.ghost y.inv y.grows us y.holds
        leaves next q Falls m2 y =
            ended (λ us m3. (say (events.Returned F.routine.name) >> give us) next m3) m2 y.ghost (judged.ends y.holds)
            (λ us typed. out next q m2 y.ghost y.inv y.grows us typed)
        leaves next q Breaks m2 y = absurd (
            let z : (judged.outside.in_loop || judged.outside.in_switch) ≡ true = y.holds in
            let u : judged.outside.in_loop ≡ false = judged.no_loop in
            let v : judged.outside.in_switch ≡ false = judged.no_switch in
            not_both u v z)
          where
            not_both : judged.outside.in_loop ≡ false → judged.outside.in_switch ≡ false → (judged.outside.in_loop || judged.outside.in_switch) ≡ true → ⊥
            not_both u v z = Rattle.std.proofs.lemmas.Bool.false≢true (sym (ap (λ (c : Bool). c || judged.outside.in_switch) u ∙ v) ∙ z)
        leaves next q Continues m2 y = absurd (Rattle.std.proofs.lemmas.Bool.false≢true (sym judged.no_loop ∙ y.holds))

-- ---- fuel

module _ (d : Tables) (world : World) (tables : typing.Tables) (sources : Sources d world tables) where
  -- with one more unit
  next_invokes : (n : ℕ) → Invokes n d world tables → Turning n d world tables → Invokes (suc n) d world tables
  next_invokes n invokes turns x s F there h k b w m vss below i globals enters flown = record {
    by = λ next q. (runs_entered n d world tables sources invokes turns x s F
        (sources.functions x s F there) h k b w m vss below i globals enters flown).by next
        (λ us m' p. safe_less n (next us m') (q us m' p));
  }

  next_turns : (n : ℕ) → Invokes n d world tables → Turning n d world tables → Turning (suc n) d world tables
  next_turns n invokes turns gives g scope f b condition body h c j found = λ st head k w m i x. record {
    by = λ next q. (turn_goes n d gives g scope f b (use_of g condition).look (left_by (in_a_loop g) body) (exits_of (in_a_loop g) body) (statement body scope)
        (loop condition body scope)
        (statement_leaves n d world tables invokes turns b gives body (in_a_loop g) scope f (surrounds_loop d world tables g scope f gives h) j
        (found_parts world.strings (expression_strings condition) (statement_strings body) found).1) (exits_told body (in_a_loop g)) st head
        (head_leaves n d gives g scope f b (use_of g condition).look (left_by (in_a_loop g) body) (exits_of (in_a_loop g) body) (truth (sense condition scope))
        (take_turn condition body scope)
        (condition_tells n d world tables invokes b gives g scope f condition h c
        (found_parts world.strings (expression_strings condition) (statement_strings body) found).0)
        (exits_told body (in_a_loop g)) (turns gives g scope f b condition body h c j found) st head) k w m i x).by next
        (λ flow m2 z. safe_less n (next flow m2) (q flow m2 z));
  }

  -- Every call and every turn of a loop runs safely, with any fuel.
  pub all_fuel : (n : ℕ) → Invokes n d world tables × Turning n d world tables
  all_fuel zero = (
    λ x s F there h k b w m vss below i globals enters flown. record { by = λ next q. tt },
    λ gives g scope f b condition body h c j found st head k w m i z. record { by = λ next q. tt },
  )
  all_fuel (suc n) =
      let h : Invokes n d world tables × Turning n d world tables = all_fuel n in (next_invokes n h.0 h.1, next_turns n h.0 h.1)

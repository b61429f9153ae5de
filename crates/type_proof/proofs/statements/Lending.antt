-- Aliases and opened keys: the local is lent to the end of the block, and held again then, on each way out.
use Rattle.std.proofs.Common.{◌≡◌, ℕ, suc, Bool, true, ◌⊎◌, inl, inr, Option, Some, None, List, [], ◌∷◌, ◌++◌, refl, sym, ◌∙◌, ap, subst, arith}
use Rattle.std.specs.Prelude.{option_map}
use Rattle.cyc_tree.specs.Tree as tree
use Rattle.source_meaning.specs.Shapes.{single}
use Rattle.source_meaning.specs.Memory as memory
use Rattle.source_meaning.specs.Memory.{Holds, Region, Born, Spot, Scalar, Memory, with_cell}
use Rattle.source_meaning.specs.Steps.{Scope, Flow, Falls, Breaks, Continues, Returns, Act}
use Rattle.source_meaning.specs.Regions as meaning
use Rattle.source_typing.specs.Left.{Left, on_ways, if_lent, lent_to, lending}
use Rattle.source_typing.specs.Scope.{Env, Local}
use Rattle.source_typing.specs.States.{State, Plain, Held, Gone, Lent, States, state_of, with_state, need_held, unless_lent}
use Rattle.source_typing.specs.Types as types
use Rattle.source_typing.specs.Types.{StaticType, Unique, Key, renamed}
use Rattle.type_proof.specs.Flat.{Tables, flat}
use Rattle.type_proof.proofs.invariant.Invariant as invariant
use Rattle.type_proof.proofs.invariant.Invariant.{RunType, heap, Nobody, Pinned, Flying, Private, Ghost, HasType, Inv, Grows}
use Rattle.type_proof.proofs.invariant.Values.{values_kept}
use Rattle.type_proof.proofs.invariant.Runs.{Runs}
use Rattle.type_proof.proofs.invariant.After.{After}
use Rattle.type_proof.proofs.invariant.Births.{known_live}
use Rattle.type_proof.proofs.invariant.Cells.{cell}
use Rattle.type_proof.proofs.invariant.Names.{NameOf, NamesOk, Stands, naming, names_later, names_more}
use Rattle.source_typing.specs.Named.{Below}
use Rattle.type_proof.proofs.invariant.Sound.{cells_type}
use Rattle.type_proof.proofs.invariant.Facts.{at_spot}
use Rattle.type_proof.proofs.invariant.NamesMore.{names_named, names_opened}
use Rattle.type_proof.proofs.invariant.Rights.{HeldAt}
use Rattle.type_proof.proofs.invariant.Aliases.{Ends, Aliased, runs_lending}
use Rattle.type_proof.proofs.invariant.Keys.{with_key, runs_with_key}
use Rattle.type_proof.proofs.invariant.LocalCells.{CellsStand, PrivateAt, held_free, free_private}
use Rattle.type_proof.proofs.invariant.Standing.{Standing, Beside}
use Rattle.type_proof.proofs.expressions.Uses.{Own, Setting, ours, here, alive, now}
use Rattle.type_proof.proofs.statements.Flows.{ReturnOk, WayStands, WaysStand}
use Rattle.source_typing.specs.Regions.{opened, with_name}

module _ (n : ℕ) (d : Tables) (gives : RunType) (g : Env) (scope : Scope) (f : NameOf → Region) (b : ℕ) (z : Setting d g scope f b b) (x : tree.Name)
  where
    private_at : (a : State) (w : Ghost) (m : Memory) (at : Spot) (ts : List RunType) → CellsStand a w m at ts → PrivateAt w at ts
    private_at Plain w m at ts h = absurd h
    private_at Held w m at ts h = free_private w m at ts (held_free w m at ts h.values h.held)
    private_at Gone w m at ts h = free_private w m at ts h
    private_at Lent w m at ts h = h

    -- a way on which the local is held again
    way_back : (o : Option States) (t : StaticType) (own : Own d g scope f x.text t) (v : Scalar) → cells_type d f t ≡ renamed f t ∷ []
        → (w2 : Ghost) (m2 : Memory) (w3 : Ghost)
        (m3 : Memory) → Beside own.at w2 m2 w3 m3 → m3.cells own.at ≡ Some (cell (renamed f t) (Holds v))
        → WayStands d g scope f o w2 m2 → WayStands d g scope f (option_map (with_state g.locals x.text Held) o) w3 m3
    way_back None t own v one w2 m2 w3 m3 beside there h = absurd (let y : None ≡ Some h.0 = h.1 in cc)
    way_back (Some s) t own v one w2 m2 w3 m3 beside there h = (
      with_state g.locals x.text Held s,
      refl,
      now n d g scope f b b z x t own s Held w2 m2 w3 m3 st beside
          (record {
            values = v ∷ [];
            held = subst (λ (ts : List RunType). HeldAt w3 m3 own.at ts (v ∷ [])) (sym one)
                (beside.types own.at (Private (renamed f t)) typed, there, tt);
          }),
    )
      where
        st : Standing d g scope f s w2 m2
        st = subst (λ (u : States). Standing d g scope f u w2 m2) (let y : Some s ≡ Some h.0 = h.1 in let q : h.0 ≡ s = cc in q) h.2

        typed : w2.types own.at ≡ Some (Private (renamed f t))
        typed = (let p : PrivateAt w2 own.at (renamed f t ∷ []) = subst (λ (ts : List RunType). PrivateAt w2 own.at ts) one
            (private_at (state_of g.locals x.text s) w2 m2 own.at (cells_type d f t) (here n d g scope f b b z x t own s w2 m2 st)) in p.0)

    beside_end : (at : Spot) (w2 : Ghost) (m2 : Memory) (w3 : Ghost) (m3 : Memory) → Ends at w2 m2 w3 m3 → Beside at w2 m2 w3 m3
    beside_end at w2 m2 w3 m3 e = record {
      types = e.types;
      cells = λ y t p q. e.cells y (λ a. p (ap (λ (o : Spot). o.region) a) (ap (λ (o : Spot). o.object) a));
    }

    -- what is returned stays of its type
    returned_kept : (at : Spot) (w2 : Ghost) (m2 : Memory) (w3 : Ghost) (m3 : Memory) (vs : List Scalar) → Ends at w2 m2 w3 m3 → ReturnOk d gives vs w2
        → ReturnOk d gives vs w3
    returned_kept at w2 m2 w3 m3 vs e h = values_kept d w2 w3 (λ c. invariant.Returned c) (λ c. invariant.Returned c) vs (flat heap d gives) (λ j. record {
      types = λ y u p. e.types y (invariant.Reached u) p;
      above = λ p q v. e.above p q v;
      owner = λ c v. e.returned (Born c) j v;
      keyed = λ c v. e.keyed (Born c);
    }) h

    ways_back : (l : Left) (t : StaticType) (own : Own d g scope f x.text t) (v : Scalar) → cells_type d f t ≡ renamed f t ∷ [] → (flow : Flow) (w2 : Ghost)
        (m2 : Memory)
        (w3 : Ghost) (m3 : Memory) → Ends own.at w2 m2 w3 m3 → m3.cells own.at ≡ Some (cell (renamed f t) (Holds v))
        → WaysStand d gives g scope f l flow w2 m2 → WaysStand d gives g scope f (on_ways (with_state g.locals x.text Held) l) flow w3 m3
    ways_back l t own v one Falls w2 m2 w3 m3 ends there h = way_back l.falls t own v one w2 m2 w3 m3 (beside_end own.at w2 m2 w3 m3 ends) there h
    ways_back l t own v one Breaks w2 m2 w3 m3 ends there h =
        (way_back l.breaks t own v one w2 m2 w3 m3 (beside_end own.at w2 m2 w3 m3 ends) there h.0, h.1)
    ways_back l t own v one Continues w2 m2 w3 m3 ends there h =
        (way_back l.continues t own v one w2 m2 w3 m3 (beside_end own.at w2 m2 w3 m3 ends) there h.0, h.1)
    ways_back l t own v one (Returns vs) w2 m2 w3 m3 ends there h = returned_kept own.at w2 m2 w3 m3 vs ends h

    -- a local of one cell, which a loan takes
    pub record Lends (t : StaticType) (own : Own d g scope f x.text t) (s : States) (w : Ghost) (m : Memory) : Type 0 where
      pub is : state_of g.locals x.text s ≡ Held
      pub value : Scalar
      pub typed : w.types own.at ≡ Some (Private (renamed f t))
      pub there : m.cells own.at ≡ Some (cell (renamed f t) (Holds value))

    pub lends : (t : StaticType) (own : Own d g scope f x.text t) → cells_type d f t ≡ renamed f t ∷ [] → (k : ℕ) (s : States) (w : Ghost) (m : Memory)
        → Standing d g scope f s w m → need_held x.at (state_of g.locals x.text s) ≡ [] → Lends t own s w m
    lends t own one k s w m st e = by (state_of g.locals x.text s) refl (here n d g scope f b b z x t own s w m st) e
      where
        cells_by : (vs : List Scalar) → state_of g.locals x.text s ≡ Held → HeldAt w m own.at (renamed f t ∷ []) vs → Lends t own s w m
        cells_by [] q h = absurd h
        cells_by (v ∷ []) q h = record { is = q; value = v; typed = h.0; there = h.1 }
        cells_by (v ∷ u ∷ us) q h = absurd h.2

        by : (a : State) → state_of g.locals x.text s ≡ a → CellsStand a w m own.at (cells_type d f t) → need_held x.at a ≡ [] → Lends t own s w m
        by Plain q h p = absurd h
        by Held q h p = cells_by h.values q (subst (λ (ts : List RunType). HeldAt w m own.at ts h.values) one h.held)
        by Gone q h p = absurd cc
        by Lent q h p = absurd cc

    -- ---- loans

    -- what the rules say of the loan itself
    abbrev pub Loan : (t : StaticType) (own : Own d g scope f x.text t) (at : ℕ) (rest : States → Left) (s : States) → Type 0
    Loan t own at rest s = (state_of g.locals x.text s ≡ Held) × ((rest (with_state g.locals x.text Lent s)).faults ≡ [])
        × (lending g at x rest s ≡ on_ways (with_state g.locals x.text Held) (record (rest (with_state g.locals x.text Lent s))
        { faults = need_held x.at Held ++ (rest (with_state g.locals x.text Lent s)).faults }))

    pub loan : (t : StaticType) (own : Own d g scope f x.text t) (at : ℕ) (rest : States → Left) (s : States) (w : Ghost) (m : Memory)
        → Standing d g scope f s w m
        → (lending g at x rest s).faults ≡ [] → Loan t own at rest s
    loan t own at rest s w m st e =
        by (state_of g.locals x.text s) (here n d g scope f b b z x t own s w m st) (ap (λ (o : Option Local). lent_to o g.locals at x rest s) own.found) e
      where
        by : (a : State) → CellsStand a w m own.at (cells_type d f t)
            → lending g at x rest s ≡ if_lent a g.locals x.text (record (rest (with_state g.locals x.text (unless_lent a Lent) s))
            { faults = need_held x.at a ++ (rest (with_state g.locals x.text (unless_lent a Lent) s)).faults })
            → (lending g at x rest s).faults ≡ []
            → (a ≡ Held) × ((rest (with_state g.locals x.text Lent s)).faults ≡ [])
            × (lending g at x rest s ≡ on_ways (with_state g.locals x.text Held) (record (rest (with_state g.locals x.text Lent s))
            { faults = need_held x.at Held ++ (rest (with_state g.locals x.text Lent s)).faults }))
        by Plain h p q = absurd h
        by Held h p q = (
          refl,
          (let y : (lending g at x rest s).faults ≡ (rest (with_state g.locals x.text Lent s)).faults = ap (λ (l : Left). l.faults) p in
              sym y ∙ q),
          p,
        )
        by Gone h p q = absurd (let y = ap (λ (l : Left). l.faults) p in let u = sym y ∙ q in cc)
        by Lent h p q = absurd (let y = ap (λ (l : Left). l.faults) p in let u = sym y ∙ q in cc)

    -- an alias, and what follows it in its block
    pub alias_leaves : (at : ℕ) (nullable : Bool) (t : StaticType) (own : Own d g scope f x.text (Unique nullable t)) (rest : States → Left) (k : ℕ)
        (s : States) (w : Ghost)
        (m : Memory) (v : Scalar) (body : Act Flow) → Inv d w m → NamesOk g.regions f k w m → Standing d g scope f s w m → w.owner own.at.region ≡ Nobody
        → w.types own.at ≡ Some (Private (renamed f (Unique nullable t)))
        → m.cells own.at ≡ Some (cell (renamed f (Unique nullable t)) (Holds v))
        → (lending g at x rest s).faults ≡ []
        → ((w1 : Ghost) (m1 : Memory) (r : Region) → Inv d w1 m1 → Grows k b w m w1 m1 → NamesOk (with_name true g.regions)
        (naming f g.regions.count r) (suc k) w1 m1
        → HasType d w1 (Flying (suc k) 0) v (types.Thin (single nullable) r (renamed f t)) → Standing d g scope f (with_state g.locals x.text Lent s) w1 m1
        → (rest (with_state g.locals x.text Lent s)).faults ≡ []
        → Runs n body m1 (λ flow. After d (suc k) b w1 m1 (λ w' m'. WaysStand d gives g scope f (rest (with_state g.locals x.text Lent s)) flow w' m')))
        → Runs n (meaning.lending own.at v body) m (λ flow. After d k b w m (λ w' m'. WaysStand d gives g scope f (lending g at x rest s) flow w' m'))
    alias_leaves at nullable t own rest k s w m v body i names st scoped typed holds e run =
        let facts : Loan (Unique nullable t) own at rest s = loan (Unique nullable t) own at rest s w m st e in
        subst (λ (l : Left). Runs n (meaning.lending own.at v body) m (λ flow. After d k b w m (λ w' m'. WaysStand d gives g scope f l flow w' m')))
        (sym facts.2)
        (runs_lending d n k b w m own.at v nullable (renamed f t) body
        (λ flow w' m'. WaysStand d gives g scope f (rest lent) flow w' m')
        (λ flow w' m'. WaysStand d gives g scope f (on_ways (with_state g.locals x.text Held)
        (record (rest lent) { faults = need_held x.at Held ++ (rest lent).faults })) flow w' m')
        i (alive n d g scope f b b z x (Unique nullable t) own k w m names) scoped
        (ours n d g scope f b b z x (Unique nullable t) own (omega arith)) typed holds
        (λ w1 a. run w1 m1 a.names.region a.inv a.grows (in_scope w1 a) a.names.pointer
        (now n d g scope f b b z x (Unique nullable t) own s Lent w m w1 m1 st (beside_lent w1 a)
        (a.grows.types own.at (Private (Unique nullable (renamed f t))) typed, tt))
        facts.1)
        (λ flow w2 m2 w3 m3 p ends there. ways_back (rest lent) (Unique nullable t) own v refl flow w2 m2 w3 m3 ends there p))
      where
        lent : States
        lent = with_state g.locals x.text Lent s

        m1 : Memory
        m1 = with_cell m own.at (cell (Unique nullable (renamed f t)) (memory.Lent v))

        beside_lent : (w1 : Ghost) → Aliased d k b w m own.at v nullable (renamed f t) w1 → Beside own.at w m w1 m1
        beside_lent w1 a = record {
          types = a.grows.types;
          cells = λ y u p q. at_spot m.cells own.at (Some (cell (Unique nullable (renamed f t)) (memory.Lent v))) y
              (λ o. o ≡ m.cells y)
              (λ c. absurd (p (ap (λ (o : Spot). o.region) c) (ap (λ (o : Spot). o.object) c))) (λ c. refl);
        }

        in_scope : (w1 : Ghost) → (a : Aliased d k b w m own.at v nullable (renamed f t) w1)
            → NamesOk (with_name true g.regions) (naming f g.regions.count a.names.region) (suc k) w1 m1
        in_scope w1 a = names_named d g.regions f (suc k) w1 m1 a.names.region true a.inv (known_live d w1 m1 a.names.region a.inv a.names.live)
            (λ q. a.names.live)
            (λ q. stays a.names.region a.names.stands) (names_more g.regions f k w1 m1 (names_later d g.regions f k b w m w1 m1 a.inv a.grows names))
          where
            stays : (r : Region) → (w1.owner r ≡ Pinned k) ⊎ (r ≡ heap) → Stands (suc k) (w1.owner r)
            stays r (inl q) = inr (k, omega arith, q)
            stays r (inr q) = inl (ap w1.owner q ∙ a.inv.heap_is_free)

    -- an opened key, and what follows it in its block
    pub open_leaves : (at : ℕ) (r : NameOf) (own : Own d g scope f x.text (Key r)) (rest : States → Left) (k : ℕ) (s : States) (w : Ghost) (m : Memory)
        (v : Scalar) (body : ℕ → Act Flow) → Inv d w m → NamesOk g.regions f k w m → Below g.regions.count r → Standing d g scope f s w m
        → w.owner own.at.region ≡ Nobody
        → w.types own.at ≡ Some (Private (Key (f r)))
        → m.cells own.at ≡ Some (cell (Key (f r)) (Holds v))
        → (lending g at x rest s).faults ≡ []
        → ((birth : ℕ) (w1 : Ghost) (m1 : Memory) → f r ≡ Born birth → Inv d w1 m1 → Grows k b w m w1 m1
        → NamesOk (opened r g.regions) f (suc k) w1 m1
        → Standing d g scope f (with_state g.locals x.text Lent s) w1 m1 → (rest (with_state g.locals x.text Lent s)).faults ≡ []
        → Runs n (body birth) m1
        (λ flow. After d (suc k) b w1 m1 (λ w' m'. WaysStand d gives g scope f (rest (with_state g.locals x.text Lent s)) flow w' m')))
        → Runs n (with_key own.at body) m (λ flow. After d k b w m (λ w' m'. WaysStand d gives g scope f (lending g at x rest s) flow w' m'))
    open_leaves at r own rest k s w m v body i names below st scoped typed holds e run =
        let facts : Loan (Key r) own at rest s = loan (Key r) own at rest s w m st e in
        subst (λ (l : Left). Runs n (with_key own.at body) m (λ flow. After d k b w m (λ w' m'. WaysStand d gives g scope f l flow w' m')))
        (sym facts.2)
        (runs_with_key d n k b w m own.at (f r) v body
        (λ flow w' m'. WaysStand d gives g scope f (rest lent) flow w' m')
        (λ flow w' m'. WaysStand d gives g scope f (on_ways (with_state g.locals x.text Held)
        (record (rest lent) { faults = need_held x.at Held ++ (rest lent).faults })) flow w' m')
        i (alive n d g scope f b b z x (Key r) own k w m names) scoped
        (ours n d g scope f b b z x (Key r) own (omega arith)) typed holds
        (λ birth w1 m1 is a. run birth w1 m1 is a.inv a.grows
        (names_opened g.regions f (suc k) w1 m1 r below a.live (inr (k, omega arith, a.pinned))
        (names_more g.regions f k w1 m1 (names_later d g.regions f k b w m w1 m1 a.inv a.grows names)))
        (now n d g scope f b b z x (Key r) own s Lent w m w1 m1 st
        (record {
          types = a.grows.types;
          cells = λ y u p q. a.cells y (λ c. p (ap (λ (o : Spot). o.region) c) (ap (λ (o : Spot). o.object) c));
        })
        (a.grows.types own.at (Private (Key (f r))) typed, tt))
        facts.1)
        (λ flow w2 m2 w3 m3 p ends there. ways_back (rest lent) (Key r) own v refl flow w2 m2 w3 m3 ends there p))
      where
        lent : States
        lent = with_state g.locals x.text Lent s

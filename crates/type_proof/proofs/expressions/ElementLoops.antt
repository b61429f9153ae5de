-- The elements of an array that is made, in a block with their index: they are evaluated and stored one after another, and each takes a unit.
use Rattle.std.proofs.Common.{◌≡◌, ℕ, zero, suc, ◌+◌, ◌<◌, ◌≤◌, Some, List, [], ◌∷◌, ◌++◌, refl, sym, ◌∙◌, ap, subst, arith}
use Rattle.std.specs.Prelude.{◌*◌, length, map}
use Rattle.std.proofs.Math.Nat.{suc-mul}
use Rattle.source_meaning.specs.Shapes.{UnsignedShape}
use Rattle.source_meaning.specs.Memory.{Region, Frame, Born, Spot, Scalar, AsUnsigned, Integer, Object, Live, Dead, Memory, array_of, beyond, blank_cell}
use Rattle.source_meaning.specs.Memory.{first_cell, next_spot, object_of, with_object, with_state}
use Rattle.source_meaning.specs.Sizes.{repeated}
use Rattle.source_meaning.specs.Steps.{Scope, Act, give, ◌>>=◌, ◌>>◌}
use Rattle.source_meaning.specs.Values.{write_cells}
use Rattle.source_meaning.specs.Making.{make_object}
use Rattle.source_meaning.specs.Places.{Sense}
use Rattle.source_meaning.specs.Calls.{index_in, index_made, elements}
use Rattle.source_meaning.specs.Regions.{in_block}
use Rattle.source_typing.specs.Scope.{Env}
use Rattle.source_typing.specs.States.{States}
use Rattle.source_typing.specs.Types.{StaticType, Unsigned, shape_of}
use Rattle.type_proof.specs.Flat.{Tables}
use Rattle.type_proof.proofs.invariant.Facts.{at_region, at_start, further, not_further}
use Rattle.type_proof.proofs.invariant.Invariant.{RunType, Kept, Reached, Ghost, Laid, HaveTypes, Inv, Grows}
use Rattle.type_proof.proofs.invariant.Values.{laid_kept}
use Rattle.type_proof.proofs.invariant.Growth.{grows_trans}
use Rattle.type_proof.proofs.invariant.Runs.{Runs}
use Rattle.type_proof.proofs.invariant.After.{After, flying, grows_base}
use Rattle.type_proof.proofs.invariant.Rows.{array_row}
use Rattle.type_proof.proofs.invariant.Cells.{runs_write_laid}
use Rattle.type_proof.proofs.invariant.Objects.{BlankAt, FullAt, New, blank_from, full_laid, grows_object, inv_object, old_cells}
use Rattle.type_proof.proofs.invariant.Filling.{runs_fill_row, blank_kept}
use Rattle.type_proof.proofs.invariant.Names.{NameOf}
use Rattle.type_proof.proofs.invariant.Scopes.{block_ghost, block_inv, block_memory, runs_block_with}
use Rattle.type_proof.proofs.invariant.Standing.{ApartFrom, Standing}
use Rattle.type_proof.proofs.invariant.Scenes.{IndexStands, Scene, scene_later, stands_kept, stands_typed}
use Rattle.type_proof.proofs.invariant.Sound.{cells_type}
use Rattle.type_proof.proofs.expressions.Calling.{safe_pays}
use Rattle.type_proof.proofs.expressions.Counters.{scene_inside, within_apart}
use Rattle.type_proof.proofs.expressions.Integers.{integer_typed}
use Rattle.type_proof.proofs.expressions.Makings.{Lives}
use Rattle.type_proof.proofs.statements.Begun.{runs_begun}

-- cells behind those of a row
laid_then : (w : Ghost) (s : Spot) (xs ys : List RunType) → Laid w s xs → Laid w (beyond s (length xs)) ys → Laid w s (xs ++ ys)
laid_then w s [] ys h j = subst (λ (x : Spot). Laid w x ys) (not_further s) j
laid_then w s (x ∷ xs) ys h j =
    (h.0, laid_then w (beyond s 1) xs ys h.1 (subst (λ (z : Spot). Laid w z ys) (sym (further s 1 (length xs) (length (x ∷ xs)) (omega arith))) j))

module _ (n : ℕ) (d : Tables) (g : Env) (scope : Scope) (f : NameOf → Region) (b : ℕ) (low : ℕ) where
  -- ---- the elements, one after another

  -- an element's value in an activation of its block, once the index has its number
  abbrev pub GivesElement : (a : ℕ) → States → StaticType → Act (List Scalar) → Type 0
  GivesElement a s t act = (k : ℕ) (w : Ghost) (m : Memory) → Inv d w m → Scene d g scope f b low s k w m → IndexStands w m (index_in a)
      → 0 < m.objects (Frame a)
      → Runs n act m (λ vs. After d k b w m (λ w' m'. HaveTypes d w' (flying k 0) vs (cells_type d f t) × Standing d g scope f s w' m'))

  module _ (t : StaticType) (r : NameOf) (k : ℕ) (s : States) (a : ℕ) (element : Sense) (live : Lives n d g scope f b low r)
      (gives : GivesElement a s t element.value) (w0 : Ghost) (m0 : Memory) (x0 : Scene d g scope f b low s k w0 m0) (entered : a < m0.activations)
      (stays : m0.state (Frame a) ≡ Live)
    where
      abbrev ts : List RunType
      ts = cells_type d f t

      next_at : (j c : ℕ) → j * c + c ≡ (j + 1) * c
      next_at j c = let e : (j + 1) * c ≡ suc j * c = ap (λ (x : ℕ). x * c) (omega arith) in sym (e ∙ suc-mul j c)

      -- what the elements leave: the object's cells are there
      pub record Filled (w : Ghost) (at : Spot) (count : ℕ) (w' : Ghost) (m' : Memory) : Type 0 where
        pub inv : Inv d w' m'
        pub grows : Grows k b w0 m0 w' m'
        pub stands : Standing d g scope f s w' m'
        pub laid : Laid w' at (repeated count ts)
        pub types : (y : Spot) (q : Kept) → w.types y ≡ Some q → w'.types y ≡ Some q

      -- between the elements: the index is there, and so are the locals
      pub record Between (w : Ghost) (m : Memory) : Type 0 where
        pub inv : Inv d w m
        pub grows : Grows k b w0 m0 w m
        pub stands : Standing d g scope f s w m
        pub typed : w.types (index_in a) ≡ Some (Reached Unsigned)
        pub made : 0 < m.objects (Frame a)

      live_now : (w : Ghost) (m : Memory) → Between w m → m.state (Frame a) ≡ Live
      live_now w m z = z.grows.state (Frame a) (z.inv.frames a) ∙ stays

      index_now : (w : Ghost) (m : Memory) → Between w m → IndexStands w m (index_in a)
      index_now w m z = record { typed = z.typed; frame = a; region = refl; known = z.grows.known (Frame a) entered; live = live_now w m z }

      scene_now : (w : Ghost) (m : Memory) → Between w m → Scene d g scope f b low s k w m
      scene_now w m z = scene_later d g scope f b low s s k w0 m0 w m z.inv z.grows z.stands x0

      -- later, where the locals stand
      between_later : (w : Ghost) (m : Memory) (w' : Ghost) (m' : Memory) → Between w m → Inv d w' m' → Grows k b w m w' m' → Standing d g scope f s w' m'
          → Between w' m'
      between_later w m w' m' z i x st = record {
        inv = i;
        grows = grows_trans z.grows x;
        stands = st;
        typed = x.types (index_in a) (Reached Unsigned) z.typed;
        made = let l = z.made in let u : m.objects (Frame a) ≤ m'.objects (Frame a) = x.objects (Frame a) in omega (arith, l, u);
      }

      -- the index gets a number
      runs_numbered : {B : Type 0} (i : ℕ) (w : Ghost) (m : Memory) (h : Act B) (Q : B → Memory → Type 0) → Between w m
          → ((w' : Ghost) (m' : Memory) → Between w' m' → Grows k b w m w' m' → Runs n h m' Q)
          → Runs n (write_cells (index_in a) (Integer AsUnsigned i ∷ []) >> h) m Q
      runs_numbered i w m h Q z go =
          let x : Scene d g scope f b low s k w m = scene_now w m z in
          runs_write_laid d n k m.activations 0 w m (index_in a) (Unsigned ∷ []) (Integer AsUnsigned i ∷ []) h Q z.inv (live_now w m z) (z.typed, tt)
          (integer_typed d f w (flying k 0) AsUnsigned i)
          (λ w' m' i' g'. go w' m' (between_later w m w' m' z i' (grows_base x.base g') (stands_kept d g scope f b low s k w m w' m' x g'))
          (grows_base x.base g'))

      -- so many from the i-th on, which lies here
      pub runs_elements : {B : Type 0} (count i : ℕ) (o at : Spot) (w : Ghost) (m : Memory) (h : Act B) (Q : B → Memory → Type 0) → at
          ≡ beyond o (i * length ts)
          → o.region ≡ f r → Between w m → m0.objects o.region ≤ o.object → o.object < m.objects o.region → BlankAt w m at (repeated count ts)
          → ((w' : Ghost) (m' : Memory) → Filled w at count w' m' → Runs n h m' Q)
          → Runs n (elements (length ts) count i o (index_in a) element >> h) m Q
      runs_elements zero i o at w m h Q here there z new counted blank go = record {
        by = λ next q. (go w m (record { inv = z.inv; grows = z.grows; stands = z.stands; laid = tt; types = λ y p e. e })).by next q;
      }
      runs_elements (suc count) i o at w m h Q here there z new counted blank go = record {
        by = λ next q. safe_pays n _ m ((runs_numbered i w m
            (element.value >>= λ vs. write_cells (beyond o (i * length ts)) vs >> (elements (length ts) count (i + 1) o (index_in a) element >> h)) Q z
            (λ w1 m1 z1 g1. record {
              by = λ next1 q1. (gives k w1 m1 z1.inv (scene_now w1 m1 z1) (index_now w1 m1 z1) z1.made).by
                  (λ vs. (write_cells (beyond o (i * length ts)) vs >> (elements (length ts) count (i + 1) o (index_in a) element >> h)) next1) (λ vs m2 y.
                  let z2 : Between y.ghost m2 = between_later w1 m1 y.ghost m2 z1 y.inv y.grows y.holds.1 in
                  let g2 : Grows k b w m y.ghost m2 = grows_trans g1 y.grows in
                  let counted2 : o.object < m2.objects o.region = (let up : m.objects o.region ≤ m2.objects o.region =
                  g2.objects o.region in omega (arith, up, counted)) in
                  (runs_fill_row d n k b 0 w0 y.ghost m0 m2 (beyond o (i * length ts)) ts (repeated count ts) vs
                  (elements (length ts) count (i + 1) o (index_in a) element >> h) Q y.inv
                  (ap m2.state there ∙ live s k y.ghost m2 y.inv (scene_now y.ghost m2 z2)) new counted2
                  (subst (λ (p : Spot). BlankAt y.ghost m2 p (ts ++ repeated count ts)) here
                  (blank_kept k b w m y.ghost m2 at (ts ++ repeated count ts)
                  (subst (λ (p : Spot). p.object < m.objects p.region) (sym here) counted) g2 blank))
                  y.holds.0 z2.grows
                  (λ w3 m3 i3 u.
                  runs_elements count (i + 1) o (beyond (beyond o (i * length ts)) (length ts)) w3 m3 h Q
                  (further o (i * length ts) (length ts) ((i + 1) * length ts) (next_at i (length ts))) there
                  (record {
                    inv = i3;
                    grows = u.grows;
                    stands = stands_typed d g scope f s y.ghost m2 w3 m3 u.types u.cells y.holds.1;
                    typed = u.types (index_in a) (Reached Unsigned) z2.typed;
                    made = subst (λ (c : Region → ℕ). 0 < c (Frame a)) (sym u.objects) z2.made;
                  }) new (subst (λ (c : Region → ℕ). o.object < c o.region) (sym u.objects) counted2) u.behind
                  (λ w4 m4 e. go w4 m4 (record {
                    inv = e.inv;
                    grows = e.grows;
                    stands = e.stands;
                    laid = subst (λ (p : Spot). Laid w4 p (ts ++ repeated count ts)) (sym here)
                        (laid_then w4 (beyond o (i * length ts)) ts (repeated count ts)
                        (laid_kept w3 w4 (beyond o (i * length ts)) ts (λ p v c. e.types p (Reached v) c) u.laid) e.laid);
                    types = λ p v c. e.types p v (u.types p v (g2.types p v c));
                  })))).by next1 q1);
            })).by next q);
      }

  -- ---- in a block with the index, behind the object

  -- the index is the first object of its block
  first_spot : (m m' : Memory) (a : ℕ) (at : Spot) → New m m' (Frame a) at → m.objects (Frame a) ≡ 0 → at ≡ index_in a
  first_spot m m' a at new none = λ i. record { region = new.region i; object = (new.object ∙ none) i; cell = new.first i }

  pub runs_indexed : (t : StaticType) (r : NameOf) (k : ℕ) (s : States) (count birth : ℕ) (element : ℕ → Sense) (w : Ghost) (m : Memory)
      → Lives n d g scope f b low r → Inv d w m → Scene d g scope f b low s k w m → m.state (Born birth) ≡ Live → f r ≡ Born birth
      → ((a : ℕ) → low ≤ a → ApartFrom (index_in a) scope.locals → GivesElement a s t (element a).value)
      → Runs n (in_block (λ a. index_made a >>
      elements (length (cells_type d f t)) count 0 (next_spot m (Born birth)) (index_in a) (element a)))
      (with_object m (Born birth) (array_of count (map blank_cell (map shape_of (cells_type d f t)))))
      (λ u. After d k b w m (λ w' m'. Laid w' (next_spot m (Born birth)) (repeated count (cells_type d f t)) × Standing d g scope f s w' m'))
  runs_indexed t r k s count birth element w m live inv x lives region gives =
      runs_block_with d n k b w m (Born birth) array
      (λ j. index_made j >> elements (length row) count 0 at (index_in j) (element j))
      (λ u w' m'. Laid w' at (repeated count row) × Standing d g scope f s w' m')
      (λ u w' m'. Laid w' at (repeated count row) × Standing d g scope f s w' m') inv
      (runs_begun d n k b (λ u. Reached u) w0 m1 (Frame a) (object_of (first_cell UnsignedShape ∷ [])) (Unsigned ∷ [])
      (λ here. elements (length row) count 0 at (index_in a) (element a)) post (λ u. refl) i1 entered
      (record { value = Integer AsUnsigned 0; first = refl; typed = λ e w' by. record { word = 0; is = refl } }, tt) (λ j. refl)
      (λ here w2 m2 i2 g2 new same vs full. record {
        by = λ next q. (runs_elements t r k s a (element a) live (gives a own apart) w0 m0 x0 (omega arith) entered count 0 at at w2 m2 (give tt) post
            (sym (at_start at (length row))) (sym region) (between here w2 m2 i2 g2 new same vs full) (omega arith)
            (let u : m1.objects (Born birth) ≤ m2.objects (Born birth) = g2.objects (Born birth) in let c = counted in omega (arith, u, c))
            (blank_kept k b w0 m1 w2 m2 at (repeated count row) counted g2
            (blank_from d w0 m0 (Born birth) array 0 (repeated count row) i0 (λ j. ap array (omega arith) ∙ array_row blank_cell count row j)))
            (λ w3 m3 z. record {
              by = λ next3 q3. q3 tt m3 (record { ghost = w3; inv = z.inv; grows = z.grows; holds = (z.laid, z.stands) });
            })).by next q;
      }))
      (λ u w2 m2 i2 g2 p. (p.0, stands_typed d g scope f s w2 m2 w2 (with_state m2 (Frame a) Dead) (λ y q e. e) (λ y q e. refl) p.1))
    where
      row : List RunType
      row = cells_type d f t

      array : Object
      array = array_of count (map blank_cell (map shape_of row))

      at : Spot
      at = next_spot m (Born birth)

      a : ℕ
      a = m.activations

      w0 : Ghost
      w0 = block_ghost w m

      m0 : Memory
      m0 = block_memory m

      m1 : Memory
      m1 = with_object m0 (Born birth) array

      i0 : Inv d w0 m0
      i0 = block_inv d w m inv

      post : Unit {0} → Memory → Type 0
      post u = After d k b w0 m0 (λ w' m'. Laid w' at (repeated count row) × Standing d g scope f s w' m')

      there : m0.state (Born birth) ≡ Live
      there = lives

      entered : m0.state (Frame a) ≡ Live
      entered = at_region m.state (Frame a) Live (Frame a) (λ q. q ≡ Live) (λ e. refl) (λ e. absurd (e refl))

      i1 : Inv d w0 m1
      i1 = inv_object d w0 m0 (Born birth) array i0 there

      x0 : Scene d g scope f b low s k w0 m0
      x0 = scene_inside d g scope f b low s k w m inv x

      own : low ≤ a
      own = let l = x.own in let u = x.begun in omega (arith, l, u)

      apart : ApartFrom (index_in a) scope.locals
      apart = within_apart a scope.locals x.inside

      counted : m.objects (Born birth) < m1.objects (Born birth)
      counted = at_region m0.objects (Born birth) (m0.objects (Born birth) + 1) (Born birth) (λ c. m.objects (Born birth) < c) (λ e. omega arith)
          (λ e. absurd (e refl))

      none : m1.objects (Frame a) ≡ 0
      none = inv.empty (Frame a) (λ l. omega (arith, l))

      between : (here : Spot) (w2 : Ghost) (m2 : Memory) → Inv d w2 m2 → Grows k b w0 m1 w2 m2 → New m1 m2 (Frame a) here
          → ((y : Spot) (q : Kept) → w0.types y ≡ Some q → m2.cells y ≡ m1.cells y) → (vs : List Scalar) → FullAt (λ u. Reached u) w2 m2 here (Unsigned ∷ []) vs
          → Between t r k s a (element a) live (gives a own apart) w0 m0 x0 (omega arith) entered w2 m2
      between here w2 m2 i2 g2 new same vs full = record {
        inv = i2;
        grows = grows_trans (grows_object d k b w0 m0 (Born birth) array i0) g2;
        stands = stands_typed d g scope f s w0 m1 w2 m2 g2.types same
            (stands_typed d g scope f s w0 m0 w0 m1 (λ y q e. e) (λ y q e. old_cells m0 (Born birth) array y (i0.counted y q e)) x0.stands);
        typed = subst (λ (y : Spot). w2.types y ≡ Some (Reached Unsigned)) (first_spot m1 m2 a here new none) (full_laid w2 m2 here (Unsigned ∷ []) vs full).0;
        made = let c : here.object < m2.objects (Frame a) = new.counted in omega (arith, c);
      }

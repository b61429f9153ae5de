-- Declarations, each with what follows it in its block.
use Rattle.std.proofs.Common.{◌≡◌, ℕ, ◌<◌, true, ◌⊎◌, inl, inr, List, [], ◌∷◌, refl, sym, ◌∙◌, ap, subst, arith}
use Rattle.std.specs.Prelude.{map}
use Rattle.cyc_tree.specs.Tree as tree
use Rattle.cyc_tree.specs.Tree.{Expression, TypeName}
use Rattle.source_meaning.specs.Shapes.{Shape, ArrayShape, HandleShape, written, settled, settled_by}
use Rattle.source_meaning.specs.Memory.{Region, Frame, Born, Spot, HandleOf, Live, Dead, Memory, with_state, object_of, array_of, first_cell, blank_object}
use Rattle.source_meaning.specs.Sizes.{repeated}
use Rattle.source_meaning.specs.Steps.{Variable, World, Scope, Flow, Falls, Breaks, Continues, Returns, Act, ◌>>=◌, ◌>>◌}
use Rattle.source_meaning.specs.Conversions.{cells_of, converted}
use Rattle.source_meaning.specs.Values.{write_cells}
use Rattle.source_meaning.specs.Making.{make_object}
use Rattle.source_meaning.specs.Places.{with_binding}
use Rattle.source_meaning.specs.Regions.{local_with, lexical_region}
use Rattle.source_meaning.specs.Strings.{expression_strings}
use Rattle.source_meaning.specs.Expressions.{sense}
use Rattle.source_typing.specs.Scope.{Env, next_region}
use Rattle.source_typing.specs.Tables as typing
use Rattle.source_typing.specs.Written.{RegionNamed}
use Rattle.source_typing.specs.Types.{StaticType, Handle, renamed, shape_of}
use Rattle.source_typing.specs.Flow.{use_of}
use Rattle.source_typing.specs.Left.{Left, after_passed, begins_as, entering}
use Rattle.source_typing.specs.States.{State, States}
use Rattle.type_proof.specs.Flat.{Tables}
use Rattle.type_proof.specs.Entries.{IsObjectType}
use Rattle.type_proof.specs.Judged.{Accepted, named, extended, arrayed, LocalUnset, LocalArray, LocalSet}
use Rattle.type_proof.proofs.invariant.Invariant.{RunType, Reached, Ghost, Inv, Grows}
use Rattle.type_proof.proofs.invariant.Growth.{grows_trans}
use Rattle.type_proof.proofs.invariant.Runs.{Runs}
use Rattle.type_proof.proofs.invariant.After.{After}
use Rattle.type_proof.proofs.invariant.Objects.{New, runs_made, full_laid}
use Rattle.type_proof.proofs.invariant.Received.{kept_as, kept_type}
use Rattle.type_proof.proofs.invariant.Scopes.{region_ghost, region_memory, runs_region}
use Rattle.type_proof.proofs.invariant.Names.{NameOf, naming}
use Rattle.type_proof.proofs.Strings.{AreFound}
use Rattle.type_proof.proofs.invariant.Scenes.{Scene, scene_later, stands_typed}
use Rattle.type_proof.proofs.invariant.Sound.{shape_renamed, cells_type, Sound, none_first, none_second}
use Rattle.type_proof.proofs.expressions.Storing.{runs_converted}
use Rattle.type_proof.proofs.Entries.{Invokes}
use Rattle.type_proof.proofs.expressions.Forms.{Denotes, Refuses}
use Rattle.type_proof.proofs.statements.Surroundings.{Surrounds, agrees_here, scene_local, scene_array, naming_itself}
use Rattle.type_proof.proofs.statements.Lexical.{lexical, surrounds_region, scene_region}
use Rattle.type_proof.proofs.statements.Begun.{runs_begun}
use Rattle.type_proof.proofs.invariant.Layouts.{AllBegin, agrees, all_begin, cells_begin}
use Rattle.type_proof.proofs.invariant.Rows.{laid_all, array_row}
use Rattle.type_proof.proofs.expressions.Converting.{converts_some}
use Rattle.source_typing.specs.Tables.{What, Stored, Arrayed, has_beginning}
use Rattle.type_proof.proofs.statements.Flows.{WaysStand, Leaves}
use Rattle.type_proof.proofs.statements.Ways.{as_after}
use Rattle.type_proof.proofs.statements.Dropped.{entering_one, ways_dropped}
use Rattle.type_proof.proofs.invariant.Standing.{LocalsBelow, ApartFrom, AllCounted, counted_apart}
use Rattle.type_proof.proofs.statements.Statements.{denotes, way_out}

module _ (n : ℕ) (d : Tables) (world : World) (tables : typing.Tables) (invokes : Invokes n d world tables) (b : ℕ)
    (gives : RunType)
  where
    -- what follows a declaration, wherever the local lies
    abbrev pub Follows : Env → Scope → (NameOf → Region) → tree.Name → What → Shape → (States → Left) → (Scope → Act Flow) → Type 0
    Follows g scope f x v sh p rest = (at : Spot) → at.region ≡ Frame scope.frame
        → Leaves n d gives (named g x v) (with_binding scope x.text (Variable sh at)) f b p (rest (with_binding scope x.text (Variable sh at)))

    pub frame_live : (g : Env) (scope : Scope) (f : NameOf → Region) (s : States) (k : ℕ) (w : Ghost) (m : Memory) → Surrounds d world tables g scope f gives
        → Scene d g scope f b b s k w m → m.state (Frame scope.frame) ≡ Live
    frame_live g scope f s k w m h x = subst (λ (r : Region). m.state r ≡ Live) h.frame (x.names.live g.frame h.frame_lives)

    -- the state in which it begins
    abbrev pub first_state : Env → tree.Name → What → State
    first_state g x v = begins_as (named g x v) v

    -- no fault from where the local came into scope
    entered_faults : (g : Env) (x : tree.Name) (v : What) (p : States → Left) (s : States) → (entering g (named g x v) p s).faults ≡ []
        → (p (first_state g x v ∷ s)).faults ≡ []
    entered_faults g x v p s e =
        subst (λ (l : Left). l.faults ≡ []) (entering_one g (named g x v) (record { name = x.text; what = v; block = g.block }) refl p s) e

    -- the rest of the block, with the local in scope, which is dropped then
    pub follows : (g : Env) (scope : Scope) (f : NameOf → Region) (x : tree.Name) (v : What) (sh : Shape) (p : States → Left) (rest : Scope → Act Flow)
        → Follows g scope f x v sh p rest → (at : Spot) → at.region ≡ Frame scope.frame → (s : States) → (entering g (named g x v) p s).faults ≡ []
        → (k : ℕ) (w : Ghost) (m : Memory) (w1 : Ghost) (m1 : Memory)
        → Inv d w1 m1 → Grows k b w m w1 m1 → Scene d (named g x v) (with_binding scope x.text (Variable sh at)) f b b (first_state g x v ∷ s) k w1 m1
        → Runs n (rest (with_binding scope x.text (Variable sh at))) m1
        (λ flow. After d k b w m (λ w' m'. WaysStand d gives g scope f (entering g (named g x v) p s) flow w' m'))
    follows g scope f x v sh p rest go at there s e k w m w1 m1 i g1 z = record {
      by = λ next q. (go at there (first_state g x v ∷ s) (entered_faults g x v p s e) k w1 m1 i z).by next (λ flow m2 y. q flow m2 (record {
        ghost = y.ghost;
        inv = y.inv;
        grows = grows_trans g1 y.grows;
        holds = subst (λ (l : Left). WaysStand d gives g scope f l flow y.ghost m2)
            (sym (entering_one g (named g x v) (record { name = x.text; what = v; block = g.block }) refl p s))
            (ways_dropped d gives g scope f x v (Variable sh at) (p (first_state g x v ∷ s)) flow y.ghost m2 y.holds);
      }));
    }

    pub made_apart : (scope : Scope) (m m1 : Memory) (at : Spot) → New m m1 (Frame scope.frame) at → AllCounted m scope.locals → ApartFrom at scope.locals
    made_apart scope m m1 at new h = counted_apart m at scope.locals
        (let z : m.objects at.region ≡ m.objects (Frame scope.frame) = ap m.objects new.region in let c : at.object ≡ m.objects (Frame scope.frame) =
        new.object in omega (arith, z, c)) h

    pub made_counted : (scope : Scope) (m m1 : Memory) (at : Spot) → New m m1 (Frame scope.frame) at → at.object < m1.objects at.region
    made_counted scope m m1 at new = subst (λ (r : Region). at.object < m1.objects r) (sym new.region) new.counted

    -- ---- without an initializer

    -- the cells of a local, by the shape of its type
    pub local_cells : (g : Env) (scope : Scope) (f : NameOf → Region) (t : StaticType) → Surrounds d world tables g scope f gives
        → cells_of scope.world (shape_of t) ≡ map shape_of (cells_type d f t)
    local_cells g scope f t h =
        ap (λ (y : World). cells_of y (shape_of t)) h.world_is
        ∙ (ap (cells_of world) (sym (shape_renamed f t)) ∙ agrees d world tables h.structs (renamed f t))

    local_begins : (g : Env) (scope : Scope) (f : NameOf → Region) (t : StaticType) → Surrounds d world tables g scope f gives → IsObjectType t
        → has_beginning g.tables t ≡ true → AllBegin (cells_type d f t)
    local_begins g scope f t h it begins =
        cells_begin d world tables f t h.structs it (subst (λ (y : typing.Tables). has_beginning y t ≡ true) h.tables_are begins)

    pub leaves_unset : (g : Env) (scope : Scope) (f : NameOf → Region) (of : TypeName) (x : tree.Name) (p : States → Left) (rest : Scope → Act Flow)
        → Surrounds d world tables g scope f gives → (l : LocalUnset g of x) → Follows g scope f x (Stored l.type g.frame) (shape_of l.type) p rest
        → Leaves n d gives g scope f b (λ s. entering g (extended g x l.type) p s)
        (make_object (Frame scope.frame) (object_of (map first_cell (cells_of scope.world (settled (written of))))) >>= λ at.
        rest (with_binding scope x.text (Variable (settled (written of)) at)))
    leaves_unset g scope f of x p rest h l go =
        subst (λ (y : Shape). Leaves n d gives g scope f b (λ st. entering g (extended g x l.type) p st)
        (make_object (Frame scope.frame) (object_of (map first_cell (cells_of scope.world y))) >>= λ at.
        rest (with_binding scope x.text (Variable y at)))) (sym l.shape)
        (subst (λ (cs : List Shape). Leaves n d gives g scope f b (λ st. entering g (extended g x l.type) p st)
        (make_object (Frame scope.frame) (object_of (map first_cell cs)) >>= λ at.
        rest (with_binding scope x.text (Variable (shape_of l.type) at)))) (sym (local_cells g scope f l.type h))
        (λ s e k w m i z.
        runs_begun d n k b (kept_as g.tables l.type) w m (Frame scope.frame) (object_of (map first_cell (map shape_of (cells_type d f l.type))))
        (cells_type d f l.type)
        (λ at. rest (with_binding scope x.text (Variable (shape_of l.type) at))) _ (kept_type g.tables l.type) i (frame_live g scope f s k w m h z)
        (local_begins g scope f l.type h l.object l.begins) (λ j. refl)
        (λ at w1 m1 i1 g1 new same vs full.
        follows g scope f x (Stored l.type g.frame) (shape_of l.type) p rest go at new.region s e k w m w1 m1 i1 g1
        (scene_local d world tables g scope f x l.type at gives h l.object l.below new.region b (extended g x l.type) s k w1 m1 vs refl
        (scene_later d g scope f b b s s k w m w1 m1 i1 g1 (stands_typed d g scope f s w m w1 m1 g1.types same z.stands) z) full
        (made_apart scope m m1 at new z.counted) (made_counted scope m m1 at new)))))

    -- an array, each of whose elements begins so
    pub leaves_array : (g : Env) (scope : Scope) (f : NameOf → Region) (of : TypeName) (x : tree.Name) (c : ℕ) (p : States → Left) (rest : Scope → Act Flow)
        → Surrounds d world tables g scope f gives → (l : LocalArray g of x c)
        → Follows g scope f x (Arrayed l.type g.frame) (ArrayShape c (shape_of l.type)) p rest
        → Leaves n d gives g scope f b (λ s. entering g (arrayed g x l.type) p s)
        (make_object (Frame scope.frame) (array_of c (map first_cell (cells_of scope.world (settled (written of))))) >>= λ at.
        rest (with_binding scope x.text (Variable (ArrayShape c (settled (written of))) at)))
    leaves_array g scope f of x c p rest h l go =
        subst (λ (y : Shape). Leaves n d gives g scope f b (λ st. entering g (arrayed g x l.type) p st)
        (make_object (Frame scope.frame) (array_of c (map first_cell (cells_of scope.world y))) >>= λ at.
        rest (with_binding scope x.text (Variable (ArrayShape c y) at)))) (sym l.shape)
        (subst (λ (cs : List Shape). Leaves n d gives g scope f b (λ st. entering g (arrayed g x l.type) p st)
        (make_object (Frame scope.frame) (array_of c (map first_cell cs)) >>= λ at.
        rest (with_binding scope x.text (Variable (ArrayShape c (shape_of l.type)) at)))) (sym (local_cells g scope f l.type h))
        (λ s e k w m i z.
        runs_begun d n k b (λ u. Reached u) w m (Frame scope.frame) (array_of c (map first_cell (map shape_of (cells_type d f l.type))))
        (repeated c (cells_type d f l.type))
        (λ at. rest (with_binding scope x.text (Variable (ArrayShape c (shape_of l.type)) at))) _ (λ u. refl) i (frame_live g scope f s k w m h z)
        (all_begin c (cells_type d f l.type) (local_begins g scope f l.type h l.object l.begins)) (array_row first_cell c (cells_type d f l.type))
        (λ at w1 m1 i1 g1 new same vs full.
        follows g scope f x (Arrayed l.type g.frame) (ArrayShape c (shape_of l.type)) p rest go at new.region s e k w m w1 m1 i1 g1
        (scene_array d world tables g scope f x l.type at gives h l.object l.below new.region c b (first_state g x (Arrayed l.type g.frame)) s k w1 m1
        (scene_later d g scope f b b s s k w m w1 m1 i1 g1 (stands_typed d g scope f s w m w1 m1 g1.types same z.stands) z)
        (laid_all w1 at c (cells_type d f l.type) (full_laid w1 m1 at (repeated c (cells_type d f l.type)) vs full)) (made_apart scope m m1 at new z.counted)
        (made_counted scope m m1 at new)))))

    -- ---- with an initializer

    pub leaves_set : (g : Env) (scope : Scope) (f : NameOf → Region) (of : TypeName) (x : tree.Name) (e : Expression) (p : States → Left)
        (rest : Scope → Act Flow)
        → Surrounds d world tables g scope f gives → (l : LocalSet g of x e) → AreFound world.strings (expression_strings e)
        → Follows g scope f x (Stored l.type g.frame) (shape_of l.type) p rest
        → Leaves n d gives g scope f b (λ s. after_passed ((use_of g e).value s) (entering g (extended g x l.type) p))
        ((sense e scope).value >>= converted scope.world (settled_by (written of) (sense e scope).shape) (sense e scope).shape >>= λ vs.
        make_object (Frame scope.frame) (blank_object (cells_of scope.world (settled_by (written of) (sense e scope).shape))) >>= λ at.
        write_cells at vs >> rest (with_binding scope x.text (Variable (settled_by (written of) (sense e scope).shape) at)))
    leaves_set g scope f of x e p rest h l found go = by z.sound
      where
        a : Accepted g e
        a = l.fitting.accepted

        z : Denotes n d g scope f b b a.value (use_of g e) (sense e scope)
        z = denotes n d world tables invokes b gives g scope f e h a found

        way : States → Left
        way s = after_passed ((use_of g e).value s) (entering g (extended g x l.type) p)

        by : Sound n d g scope f b b a.value (use_of g e) z.own (sense e scope) ⊎ Refuses n d g scope f b b (use_of g e)
            → Leaves n d gives g scope f b way
            ((sense e scope).value >>= converted scope.world (settled_by (written of) (sense e scope).shape) (sense e scope).shape >>= λ vs.
            make_object (Frame scope.frame) (blank_object (cells_of scope.world (settled_by (written of) (sense e scope).shape))) >>= λ at.
            write_cells at vs >> rest (with_binding scope x.text (Variable (settled_by (written of) (sense e scope).shape) at)))
        by (inr r) = λ s none. absurd (r.value s
            (none_first ((use_of g e).value s).faults (entering g (extended g x l.type) p ((use_of g e).value s).states).faults none))
        by (inl y) =
            let from : (sense e scope).shape ≡ shape_of a.value.type =
            y.shape (converts_some g.regions a.value.type l.type l.fitting.converts l.object) in
            let shape_is : settled_by (written of) (sense e scope).shape ≡ shape_of l.type = ap (settled_by (written of)) from ∙ l.shape in
            let cells : cells_of scope.world (shape_of l.type) ≡ map shape_of (cells_type d f l.type) = local_cells g scope f l.type h in
            subst (λ (q : Shape). Leaves n d gives g scope f b way ((sense e scope).value >>= converted scope.world q (sense e scope).shape >>= λ vs.
            make_object (Frame scope.frame) (blank_object (cells_of scope.world q)) >>= λ at.
            write_cells at vs >> rest (with_binding scope x.text (Variable q at)))) (sym shape_is)
            (subst (λ (q : Shape). Leaves n d gives g scope f b way ((sense e scope).value >>= converted scope.world (shape_of l.type) q >>= λ vs.
            make_object (Frame scope.frame) (blank_object (cells_of scope.world (shape_of l.type))) >>= λ at.
            write_cells at vs >> rest (with_binding scope x.text (Variable (shape_of l.type) at)))) (sym from)
            (subst (λ (cs : List Shape). Leaves n d gives g scope f b way
            ((sense e scope).value >>= converted scope.world (shape_of l.type) (shape_of a.value.type) >>= λ vs.
            make_object (Frame scope.frame) (blank_object cs) >>= λ at. write_cells at vs >> rest (with_binding scope x.text (Variable (shape_of l.type) at))))
            (sym cells)
            (λ s none k w m i z0.
            let s1 : States = ((use_of g e).value s).states in
            let before : ((use_of g e).value s).faults ≡ [] = none_first ((use_of g e).value s).faults (entering g (extended g x l.type) p s1).faults none in
            let behind : (entering g (extended g x l.type) p s1).faults ≡ [] =
            none_second ((use_of g e).value s).faults (entering g (extended g x l.type) p s1).faults none in
            runs_converted n d g scope f b b s s1 a.value.type l.type (sense e scope).value
            (λ vs. make_object (Frame scope.frame) (blank_object (map shape_of (cells_type d f l.type))) >>= λ at.
            write_cells at vs >> rest (with_binding scope x.text (Variable (shape_of l.type) at)))
            k w m (λ flow. After d k b w m (λ w' m'. WaysStand d gives g scope f (way s) flow w' m')) (agrees_here d world tables g scope f gives h) z.simple
            l.object l.fitting.converts (y.value (omega arith) s before) i z0
            (λ vs w1 m1 i1 g1 typed q1.
            runs_made d n k b (kept_as g.tables l.type) w1 m1 (Frame scope.frame) (cells_type d f l.type) vs
            (λ at. rest (with_binding scope x.text (Variable (shape_of l.type) at)))
            (λ flow. After d k b w m (λ w' m'. WaysStand d gives g scope f (way s) flow w' m'))
            (kept_type g.tables l.type) i1 (frame_live g scope f s1 k w1 m1 h q1) typed
            (λ at w2 m2 i2 g2 new full st settles. record {
              by = λ next go2. (follows g scope f x (Stored l.type g.frame) (shape_of l.type) p rest go at new.region s1 behind k w m w2 m2 i2
                  (grows_trans g1 g2)
                  (scene_local d world tables g scope f x l.type at gives h l.object l.below new.region b (extended g x l.type) s1 k w2 m2 vs refl
                  (scene_later d g scope f b b s1 s1 k w1 m1 w2 m2 i2 g2 (stands_typed d g scope f s1 w1 m1 w2 m2 g2.types settles.cells q1.stands) q1)
                  full (made_apart scope m1 m2 at new q1.counted) (made_counted scope m1 m2 at new))).by next
                  (λ flow m3 y. go2 flow m3 (record {
                    ghost = y.ghost;
                    inv = y.inv;
                    grows = y.grows;
                    holds = as_after n d gives g scope f b (entering g (extended g x l.type) p s1) ((use_of g e).value s).faults flow y.ghost m3 y.holds;
                  }));
            })))))

    -- ---- lexical regions

    -- a region that was born, whose handle is a local of the block
    pub leaves_region : (g : Env) (scope : Scope) (f : NameOf → Region) (names : List RegionNamed) (x : tree.Name) (p : States → Left) (rest : Scope → Act Flow)
        → Surrounds d world tables g scope f gives
        → ((a : ℕ) → Follows (lexical g names) scope (naming f g.regions.count (Born a)) x (Stored (Handle (next_region g)) g.frame) HandleShape p rest)
        → Leaves n d gives g scope f b (λ s. entering g (extended (lexical g names) x (Handle (next_region g))) p s) (lexical_region scope x.text rest)
    leaves_region g scope f names x p rest h go = λ s e k w m i q.
        runs_region d n k b w m (λ r. local_with scope x.text HandleShape (HandleOf r ∷ []) rest)
        (λ flow w' m'. WaysStand d gives (lexical g names) scope (naming f g.regions.count (Born m.births)) (entering g inner p s) flow w' m')
        (λ flow w' m'. WaysStand d gives g scope f (entering g inner p s) flow w' m') i
        (λ i1. opened s e k w m i1 (scene_region d world tables g scope f gives names b s k w m h i q)
        (surrounds_region d world tables g scope f gives names m.births h))
        (λ flow w2 m2 i2 g2 y. out m.births q.below (entering g inner p s) flow w2 m2 y)
      where
        inner : Env
        inner = extended (lexical g names) x (Handle (next_region g))

        out : (a : ℕ) → LocalsBelow g.regions.count g.locals → (l : Left) (flow : Flow) (w2 : Ghost) (m2 : Memory)
            → WaysStand d gives (lexical g names) scope (naming f g.regions.count (Born a)) l flow w2 m2
            → WaysStand d gives g scope f l flow w2 (with_state m2 (Born a) Dead)
        out a below l Falls w2 m2 y = way_out n d world tables invokes b gives g scope scope f (Born a) l.falls w2 m2 (with_state m2 (Born a) Dead) refl below
            (λ p. refl) y
        out a below l Breaks w2 m2 y = (
          way_out n d world tables invokes b gives g scope scope f (Born a) l.breaks w2 m2 (with_state m2 (Born a) Dead) refl
              below (λ p. refl) y.0,
          y.1,
        )
        out a below l Continues w2 m2 y = (
          way_out n d world tables invokes b gives g scope scope f (Born a) l.continues w2 m2 (with_state m2 (Born a) Dead)
              refl below (λ p. refl) y.0,
          y.1,
        )
        out a below l (Returns vs) w2 m2 y = y

        opened : (s : States) → (entering g inner p s).faults ≡ [] → (k : ℕ) (w : Ghost) (m : Memory) → Inv d (region_ghost w m) (region_memory m)
            → Scene d (lexical g names) scope (naming f g.regions.count (Born m.births)) b b s k (region_ghost w m) (region_memory m)
            → Surrounds d world tables (lexical g names) scope (naming f g.regions.count (Born m.births)) gives
            → Runs n (local_with scope x.text HandleShape (HandleOf m.births ∷ []) rest) (region_memory m)
            (λ flow. After d k b (region_ghost w m) (region_memory m)
            (λ w' m'. WaysStand d gives (lexical g names) scope (naming f g.regions.count (Born m.births)) (entering g inner p s) flow w' m'))
        opened s e k w m i1 q1 h1 =
            runs_made d n k b (λ t. Reached t) (region_ghost w m) (region_memory m) (Frame scope.frame)
            (cells_type d (naming f g.regions.count (Born m.births)) (Handle (next_region g))) (HandleOf m.births ∷ [])
            (λ at. rest (with_binding scope x.text (Variable HandleShape at)))
            (λ flow. After d k b (region_ghost w m) (region_memory m)
            (λ w' m'. WaysStand d gives (lexical g names) scope (naming f g.regions.count (Born m.births)) (entering g inner p s) flow w' m'))
            (λ t. refl) i1
            (frame_live (lexical g names) scope (naming f g.regions.count (Born m.births)) s k (region_ghost w m) (region_memory m) h1 q1)
            (record { birth = m.births; is = refl; region = naming_itself f g.regions.count (Born m.births) }, tt)
            (λ at w2 m2 i2 g2 new full st settles.
            follows (lexical g names) scope (naming f g.regions.count (Born m.births)) x (Stored (Handle (next_region g)) g.frame) HandleShape p rest
            (go m.births) at new.region s e k (region_ghost w m) (region_memory m) w2 m2 i2 g2
            (scene_local d world tables (lexical g names) scope (naming f g.regions.count (Born m.births)) x (Handle (next_region g)) at gives h1 tt
            (omega arith) new.region b inner s k w2 m2 (HandleOf m.births ∷ []) refl
            (scene_later d (lexical g names) scope (naming f g.regions.count (Born m.births)) b b s s k (region_ghost w m) (region_memory m) w2 m2 i2 g2
            (stands_typed d (lexical g names) scope (naming f g.regions.count (Born m.births)) s (region_ghost w m) (region_memory m) w2 m2 g2.types
            settles.cells q1.stands) q1)
            full
            (made_apart scope (region_memory m) m2 at new q1.counted) (made_counted scope (region_memory m) m2 at new)))

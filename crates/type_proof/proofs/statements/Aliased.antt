-- `let alias`: what follows it runs with a copy of the pointer, while the pointer is lent.
use Rattle.std.proofs.Common.{◌≡◌, ℕ, suc, Bool, true, false, inl, inr, Option, Some, None, List, [], ◌∷◌, refl, sym, ◌∙◌, ap, subst, arith}
use Rattle.cyc_tree.specs.Tree as tree
use Rattle.cyc_tree.specs.Tree.{TypeName}
use Rattle.source_meaning.specs.Shapes.{count_of, single, Shape, ThinShape, Shared, Alone, written, settled_by}
use Rattle.source_meaning.specs.Memory as memory
use Rattle.source_meaning.specs.Memory.{Region, Frame, Born, Spot, Scalar, Holds, Memory, blank_object}
use Rattle.source_meaning.specs.Steps.{Step, Entity, Variable, World, Scope, Flow, Falls, Breaks, Continues, Returns, Act, ◌>>=◌, ◌>>◌, check}
use Rattle.source_meaning.specs.Conversions.{converted_scalar, thin_to_thin}
use Rattle.source_meaning.specs.Values.{read_cell, write_cells}
use Rattle.source_meaning.specs.Making.{make_object}
use Rattle.source_meaning.specs.Places.{entity_of, with_binding}
use Rattle.source_meaning.specs.Regions as meaning
use Rattle.source_meaning.specs.Regions.{operand_of, local_with}
use Rattle.source_typing.specs.Left.{Left, entering, lending, lent_to}
use Rattle.source_typing.specs.Scope.{Env, Local, find_local, meant, next_region}
use Rattle.source_typing.specs.States.{Lent, States, with_state, need_held}
use Rattle.source_typing.specs.Tables as typing
use Rattle.source_typing.specs.Tables.{What, OfValue, Stored}
use Rattle.source_typing.specs.Types.{StaticType, Thin, Unique, renamed, shape_of}
use Rattle.type_proof.specs.Entries.{IsObjectType}
use Rattle.type_proof.specs.Flat.{Tables}
use Rattle.type_proof.specs.Judged.{extended, AliasOpened}
use Rattle.type_proof.proofs.Entries.{Invokes}
use Rattle.source_typing.specs.Named.{TypeBelow}
use Rattle.type_proof.proofs.invariant.Alikes.{cells_type, renamed_alike}
use Rattle.type_proof.proofs.invariant.Invariant.{RunType, Owner, InCell, Flying, Nobody, Private, Ghost, HasType, CellOk, Inv}
use Rattle.type_proof.proofs.invariant.Runs.{Safe, Runs}
use Rattle.type_proof.proofs.invariant.After.{After}
use Rattle.type_proof.proofs.invariant.Cells.{seen, runs_read}
use Rattle.type_proof.proofs.invariant.Names.{NameOf, naming}
use Rattle.type_proof.proofs.invariant.Objects.{runs_made}
use Rattle.type_proof.proofs.invariant.Received.{kept_as, kept_type}
use Rattle.type_proof.proofs.invariant.Rights.{content_same}
use Rattle.type_proof.proofs.invariant.Scenes.{Scene, scene_later, scene_more, stands_typed}
use Rattle.type_proof.proofs.invariant.Sound.{InOwn}
use Rattle.type_proof.proofs.invariant.Standing.{LocalsBelow}
use Rattle.type_proof.proofs.expressions.Forms.{local_meant}
use Rattle.type_proof.proofs.expressions.Owned.{setting, in_own}
use Rattle.type_proof.proofs.expressions.Uses.{Own, Setting, alive}
use Rattle.type_proof.proofs.expressions.Words.{shape_itself}
use Rattle.type_proof.proofs.statements.AliasScope.{aliasing, surrounds_alias, scene_alias}
use Rattle.type_proof.proofs.statements.Declared.{Follows, frame_live, follows, local_cells, made_apart, made_counted}
use Rattle.type_proof.proofs.statements.Flows.{WaysStand, Leaves}
use Rattle.type_proof.proofs.statements.Freed.{unique_own}
use Rattle.type_proof.proofs.statements.Lending.{Lends, Loan, lends, loan, alias_leaves}
use Rattle.type_proof.proofs.statements.Lexical.{names_with}
use Rattle.type_proof.proofs.statements.Statements.{way_out}
use Rattle.type_proof.proofs.statements.Surroundings.{Surrounds, agrees_here, scene_local, naming_alike, naming_itself, type_up}

-- the pointer as one that isn't unique
runs_shared : {B : Type 0} (n : ℕ) (d : Tables) (world : World) (f : NameOf → Region) (w : Ghost) (m : Memory) (o : Owner) (v : Scalar) (c : Bool)
    (t : StaticType) (h : Scalar → Act B) (Q : B → Memory → Type 0)
    → IsObjectType t → HasType d w o v (Unique c (renamed f t)) → Runs n (h v) m Q
    → Runs n (converted_scalar world (ThinShape (single c) Shared (shape_of t)) (ThinShape (single c) Alone (shape_of t)) v >>= h) m Q
runs_shared {B = B} n d world f w m o v c t h Q it typed go = by typed
  where
    act : Scalar → Act B
    act u = converted_scalar world (ThinShape (single c) Shared (shape_of t)) (ThinShape (single c) Alone (shape_of t)) u >>= h

    null : (a : Bool) → a ≡ true → Runs n (h (memory.Thin None)) m Q
        → Runs n (converted_scalar world (ThinShape (single a) Shared (shape_of t)) (ThinShape (single a) Alone (shape_of t)) (memory.Thin None) >>= h) m Q
    null true e p = record { by = λ next q. p.by next q }
    null false e p = absurd cc

    leads : (a : Bool) (s : Spot) (next : B → Memory → Step) → Safe n (h (memory.Thin (Some s)) next m)
        → Safe n ((thin_to_thin (single a) (count_of (single a)) (Some s) >>= h) next m)
    leads true s next p = p
    leads false s next p = p

    by : HasType d w o v (Unique c (renamed f t)) → Runs n (act v) m Q
    by (inl z) = subst (λ (u : Scalar). Runs n (act u) m Q) (sym z.is)
        (null c z.allowed (subst (λ (u : Scalar). Runs n (h u) m Q) z.is go))
    by (inr z) = subst (λ (u : Scalar). Runs n (act u) m Q) (sym z.is) (record {
      by = λ next q.
          subst (λ (a : Bool). Safe n ((check a >> thin_to_thin (single c) (count_of (single c)) (Some (record { region = Born z.block; object = 0; cell = 0 }))
          >>= h) next m))
          (sym (shape_itself t it))
          (leads c (record { region = Born z.block; object = 0; cell = 0 }) next ((subst (λ (u : Scalar). Runs n (h u) m Q) z.is go).by next q));
    })

module _ (n : ℕ) (d : Tables) (world : World) (tables : typing.Tables) (invokes : Invokes n d world tables) (b : ℕ) (gives : RunType) (g : Env)
    (scope : Scope) (f : NameOf → Region) (x y : tree.Name) (r : tree.RegionName) (of : TypeName) (p : States → Left) (rest : Scope → Act Flow)
    (h : Surrounds d world tables g scope f gives) (at : ℕ) (o : AliasOpened g at r of x y)
  where
    abbrev pub t : StaticType
    t = Thin (single o.operand.nullable) (next_region g) o.operand.to

    abbrev pub source : StaticType
    source = Unique o.operand.nullable o.operand.to

    abbrev pub outside : Env
    outside = aliasing g (names_with r g)

    abbrev pub inner : Env
    inner = extended outside x t

    abbrev pub named_as : Region → NameOf → Region
    named_as q = naming f g.regions.count q

    -- what follows, wherever the pointer leads
    abbrev pub Going : Type 0
    Going = (q : Region) → IsObjectType o.operand.to → TypeBelow g.regions.count o.operand.to
        → Follows n d world tables invokes b gives outside scope (named_as q) x (Stored t g.frame) (shape_of t) p rest

    -- the name goes out of scope
    out : (q : Region) → LocalsBelow g.regions.count g.locals → (l : Left) (flow : Flow) (w : Ghost) (m : Memory)
        → WaysStand d gives outside scope (named_as q) l flow w m → WaysStand d gives g scope f l flow w m
    out q below l Falls w m z = way_out n d world tables invokes b gives g scope scope f q l.falls w m m refl below (λ s. refl) z
    out q below l Breaks w m z = (way_out n d world tables invokes b gives g scope scope f q l.breaks w m m refl below (λ s. refl) z.0, z.1)
    out q below l Continues w m z = (way_out n d world tables invokes b gives g scope scope f q l.continues w m m refl below (λ s. refl) z.0, z.1)
    out q below l (Returns vs) w m z = z

    -- the alias is a local of the block
    opened : Going → (q : Region) (it : IsObjectType o.operand.to) (under : TypeBelow g.regions.count o.operand.to) (s : States)
        → (entering g inner p s).faults ≡ [] → (k : ℕ) (w : Ghost) (m : Memory) (v : Scalar) → Inv d w m → LocalsBelow g.regions.count g.locals
        → Scene d outside scope (named_as q) b b s k w m
        → HasType d w (Flying k 0) v (renamed (named_as q) t)
        → Runs n (local_with scope x.text (shape_of t) (v ∷ []) rest) m
        (λ flow. After d k b w m (λ w' m'. WaysStand d gives g scope f (entering g inner p s) flow w' m'))
    opened go q it under s none k w m v i locals z typed =
        subst (λ (cs : List Shape). Runs n (make_object (Frame scope.frame) (blank_object cs) >>= λ at. write_cells at (v ∷ []) >>
        rest (with_binding scope x.text (Variable (shape_of t) at))) m
        (λ flow. After d k b w m (λ w' m'. WaysStand d gives g scope f (entering g inner p s) flow w' m')))
        (sym (local_cells n d world tables invokes b gives outside scope (named_as q) t h1))
        (runs_made d n k b (kept_as g.tables t) w m (Frame scope.frame) (cells_type d (named_as q) t) (v ∷ [])
        (λ at. rest (with_binding scope x.text (Variable (shape_of t) at)))
        (λ flow. After d k b w m (λ w' m'. WaysStand d gives g scope f (entering g inner p s) flow w' m'))
        (kept_type g.tables t) i (frame_live n d world tables invokes b gives outside scope (named_as q) s k w m h1 z) (typed, tt)
        (λ at w2 m2 i2 g2 new full st settles. record {
          by = λ next go2. (follows n d world tables invokes b gives outside scope (named_as q) x (Stored t g.frame) (shape_of t) p rest
              (go q it under) at new.region
              s none k w m w2 m2 i2 g2
              (scene_local d world tables outside scope (named_as q) x t at gives h1 it
              (omega arith, type_up g.regions.count o.operand.to under) new.region b inner s k
              w2 m2 (v ∷ []) refl
              (scene_later d outside scope (named_as q) b b s s k w m w2 m2 i2 g2
              (stands_typed d outside scope (named_as q) s w m w2 m2 g2.types settles.cells z.stands) z) full
              (made_apart n d world tables invokes b gives scope m m2 at new z.counted)
              (made_counted n d world tables invokes b gives scope m m2 at new))).by next
              (λ flow m3 a. go2 flow m3 (record {
                ghost = a.ghost;
                inv = a.inv;
                grows = a.grows;
                holds = out q locals (entering g inner p s) flow a.ghost m3 a.holds;
              }));
        }))
      where
        h1 : Surrounds d world tables outside scope (named_as q) gives
        h1 = surrounds_alias d world tables g scope f gives (names_with r g) q h

    -- the type of the alias in this run
    run_type : (q : Region) → TypeBelow g.regions.count o.operand.to → Thin (single o.operand.nullable) q (renamed f o.operand.to) ≡ renamed (named_as q) t
    run_type q under =
        let e : naming f g.regions.count q (next_region g) ≡ q = naming_itself f g.regions.count q in
        let c : renamed (named_as q) o.operand.to ≡ renamed f o.operand.to =
        renamed_alike g.regions.count f (named_as q) o.operand.to (naming_alike f g.regions.count q) under in
        cc

    pub leaves_alias : Going → Leaves n d gives g scope f b (λ s. lending g at y (entering g inner p) s) (meaning.aliased scope (written of) x.text y.text rest)
    leaves_alias go = λ s none k w m i q. by s none k w m i q (find_local g.locals y.text) refl
      where
        ends : States → Flow → Memory → (k : ℕ) (w : Ghost) (m : Memory) → Type 0
        ends s flow m' k w m = After d k b w m (λ w2 m2. WaysStand d gives g scope f (lending g at y (entering g inner p) s) flow w2 m2) m'

        act : Option Entity → Act Flow
        act e = operand_of e >>= λ u. read_cell u.at >>= λ v. converted_scalar scope.world (settled_by (written of) u.shape) u.shape v >>= λ c.
            meaning.lending u.at v (local_with scope x.text (settled_by (written of) u.shape) (c ∷ []) rest)

        here : (s : States) → (lending g at y (entering g inner p) s).faults ≡ [] → (k : ℕ) (w : Ghost) (m : Memory) → Inv d w m → Scene d g scope f b b s k w m
            → (own : Own d g scope f y.text source) → Runs n (act (Some (Variable (shape_of source) own.at))) m (λ flow m'. ends s flow m' k w m)
        here s none k w m i q own =
            subst (λ (sh : Shape). Runs n (read_cell own.at >>= λ v. converted_scalar scope.world sh (shape_of source) v >>= λ c.
            meaning.lending own.at v (local_with scope x.text sh (c ∷ []) rest)) m (λ flow m'. ends s flow m' k w m)) (sym o.shape)
            (runs_read n own.at (shape_of (renamed f source)) l.value
            (λ v. converted_scalar scope.world (shape_of t) (shape_of source) v >>= λ c. meaning.lending own.at v
            (local_with scope x.text (shape_of t) (c ∷ []) rest))
            m (λ flow m'. ends s flow m' k w m) (seen m own.at _ (alive n d g scope f b b z y source own k w m q.names) l.there)
            (runs_shared n d scope.world f w m (InCell own.at) l.value o.operand.nullable o.operand.to
            (λ c. meaning.lending own.at l.value (local_with scope x.text (shape_of t) (c ∷ []) rest)) (λ flow m'. ends s flow m' k w m) it
            (ok l.value (content_same _ (renamed f source) a.content (Holds l.value) a.is l.there))
            (alias_leaves n d gives g scope f b z y at o.operand.nullable o.operand.to own (entering g inner p) k s w m l.value
            (local_with scope x.text (shape_of t) (l.value ∷ []) rest) i q.names q.stands scoped l.typed l.there none
            (λ w1 m1 q1 i1 g1 names1 typed1 st1 none1. opened go q1 it under lent none1 (suc k) w1 m1 l.value i1 q.below
            (scene_alias d world tables g scope f gives (names_with r g) q1 b lent (suc k) w1 m1 h names1
            (scene_more d g scope f b b lent k w1 m1 (scene_later d g scope f b b s lent k w m w1 m1 i1 g1 st1 q)))
            (subst (λ (u : RunType). HasType d w1 (Flying (suc k) 0) l.value u) (run_type q1 under) typed1)))))
          where
            z : Setting d g scope f b b
            z = setting n d g scope f b b (agrees_here d world tables g scope f gives h) s k w m q

            lent : States
            lent = with_state g.locals y.text Lent s

            facts : Loan n d gives g scope f b z y source own at (entering g inner p) s
            facts = loan n d gives g scope f b z y source own at (entering g inner p) s w m q.stands none

            l : Lends n d gives g scope f b z y source own s w m
            l = lends n d gives g scope f b z y source own refl k s w m q.stands (ap (need_held y.at) facts.0)

            a : CellOk d w own.at (m.cells own.at) (Private (renamed f source))
            a = i.cells own.at (Private (renamed f source)) l.typed

            ok : (u : Scalar) → a.content ≡ Holds u → HasType d w (InCell own.at) u (renamed f source)
            ok = a.ok

            meaning_of : meant g y.text ≡ Some (OfValue (Stored source own.region))
            meaning_of = local_meant g.locals g.tables y.text own.local own.found ∙ ap (λ (u : What). Some (OfValue u)) own.what

            it : IsObjectType o.operand.to
            it = h.plain y.text (OfValue (Stored source own.region)) meaning_of

            under : TypeBelow g.regions.count o.operand.to
            under = (h.binds.variables y.text (Stored source own.region) meaning_of).below

            scoped : w.owner own.at.region ≡ Nobody
            scoped =
                let lies : InOwn b own.at m = in_own n d g scope f b b (agrees_here d world tables g scope f gives h) y source own s k w m q in
                ap w.owner lies.region ∙ i.frames lies.frame

        by : (s : States) → (lending g at y (entering g inner p) s).faults ≡ [] → (k : ℕ) (w : Ghost) (m : Memory) → Inv d w m → Scene d g scope f b b s k w m
            → (l : Option Local) → find_local g.locals y.text ≡ l
            → Runs n (act (entity_of scope y.text)) m (λ flow m'. ends s flow m' k w m)
        by s none k w m i q None found = absurd (let u = ap (λ (l : Option Local). (lent_to l g.locals at y (entering g inner p) s).faults) (sym found)
            ∙ none in cc)
        by s none k w m i q (Some l) found =
            let own : Own d g scope f y.text source = unique_own d g scope f y l h.binds found o.operand in
            subst (λ (e : Option Entity). Runs n (act e) m (λ flow m'. ends s flow m' k w m)) (sym own.bound) (here s none k w m i q own)

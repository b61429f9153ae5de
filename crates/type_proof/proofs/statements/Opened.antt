-- `open`: what follows it runs with the key's region live, while the key is lent.
use Rattle.std.proofs.Common.{◌≡◌, ℕ, suc, Option, Some, None, [], ◌∷◌, refl, sym, ◌∙◌, ap, subst}
use Rattle.cyc_tree.specs.Tree as tree
use Rattle.source_meaning.specs.Shapes.{HandleShape}
use Rattle.source_meaning.specs.Memory.{Region, Born, Frame, HandleOf, Memory}
use Rattle.source_meaning.specs.Steps.{Entity, Variable, World, Scope, Flow, Falls, Breaks, Continues, Returns, Act, ◌>>=◌}
use Rattle.source_meaning.specs.Places.{entity_of, with_binding}
use Rattle.source_meaning.specs.Regions.{local_with, open_key, operand_of}
use Rattle.source_typing.specs.Left.{Left, entering, lending, lent_to}
use Rattle.source_typing.specs.Scope.{Env, Local, find_local, meant}
use Rattle.source_typing.specs.States.{Lent, States, with_state, need_held}
use Rattle.source_typing.specs.Tables as typing
use Rattle.source_typing.specs.Tables.{What, OfValue, Stored}
use Rattle.source_typing.specs.Types.{StaticType, Handle, Key}
use Rattle.type_proof.specs.Flat.{Tables}
use Rattle.type_proof.specs.Judged.{KeyOperand, extended}
use Rattle.type_proof.proofs.Entries.{Invokes}
use Rattle.type_proof.proofs.invariant.Invariant.{RunType, Nobody, Ghost, Inv}
use Rattle.type_proof.proofs.invariant.Keys.{with_key}
use Rattle.type_proof.proofs.invariant.Runs.{Runs}
use Rattle.type_proof.proofs.invariant.After.{After}
use Rattle.type_proof.proofs.invariant.Names.{NameOf}
use Rattle.source_typing.specs.Named.{Below}
use Rattle.type_proof.proofs.invariant.Objects.{runs_made}
use Rattle.type_proof.proofs.invariant.Received.{kept_as, kept_type}
use Rattle.type_proof.proofs.invariant.Scenes.{Scene, scene_later, scene_more, stands_typed}
use Rattle.type_proof.proofs.invariant.Sound.{InOwn, cells_type}
use Rattle.type_proof.proofs.expressions.Forms.{local_meant}
use Rattle.type_proof.proofs.expressions.Owned.{setting, in_own}
use Rattle.type_proof.proofs.expressions.Uses.{Own, Setting}
use Rattle.type_proof.proofs.statements.AliasScope.{opening, surrounds_open, scene_open}
use Rattle.type_proof.proofs.statements.Declared.{Follows, frame_live, follows, made_apart, made_counted}
use Rattle.type_proof.proofs.statements.Flows.{WaysStand, Leaves}
use Rattle.type_proof.proofs.statements.Freed.{key_own}
use Rattle.type_proof.proofs.statements.Lending.{Lends, Loan, lends, loan, open_leaves}
use Rattle.type_proof.proofs.statements.Surroundings.{Surrounds, agrees_here, scene_local}

module _ (n : ℕ) (d : Tables) (world : World) (tables : typing.Tables) (invokes : Invokes n d world tables) (b : ℕ) (gives : RunType) (g : Env)
    (scope : Scope) (f : NameOf → Region) (x y : tree.Name) (p : States → Left) (rest : Scope → Act Flow)
    (h : Surrounds d world tables g scope f gives) (at : ℕ) (o : KeyOperand g y)
  where
    abbrev pub handle_type : StaticType
    handle_type = Handle o.region

    abbrev pub source : StaticType
    source = Key o.region

    abbrev pub outside : Env
    outside = opening g o.region

    abbrev pub inner : Env
    inner = extended outside x handle_type

    -- what follows, wherever the local lies
    abbrev pub Going : Type 0
    Going = Below g.regions.count o.region
        → Follows n d world tables invokes b gives outside scope f x (Stored handle_type g.frame) HandleShape p rest

    -- the names are those that were
    out : (l : Left) (flow : Flow) (w : Ghost) (m : Memory) → WaysStand d gives outside scope f l flow w m → WaysStand d gives g scope f l flow w m
    out l Falls w m z = z
    out l Breaks w m z = z
    out l Continues w m z = z
    out l (Returns vs) w m z = z

    h1 : Surrounds d world tables outside scope f gives
    h1 = surrounds_open d world tables g scope f gives o.region h

    -- the handle is a local of the block
    inside : Going → Below g.regions.count o.region → (s : States) → (entering g inner p s).faults ≡ [] → (k : ℕ) (w : Ghost) (m : Memory) (birth : ℕ)
        → f o.region ≡ Born birth → Inv d w m → Scene d outside scope f b b s k w m
        → Runs n (local_with scope x.text HandleShape (HandleOf birth ∷ []) rest) m
        (λ flow. After d k b w m (λ w' m'. WaysStand d gives g scope f (entering g inner p s) flow w' m'))
    inside go below s none k w m birth is i z =
        runs_made d n k b (kept_as g.tables handle_type) w m (Frame scope.frame) (cells_type d f handle_type) (HandleOf birth ∷ [])
        (λ at. rest (with_binding scope x.text (Variable HandleShape at)))
        (λ flow. After d k b w m (λ w' m'. WaysStand d gives g scope f (entering g inner p s) flow w' m'))
        (kept_type g.tables handle_type) i (frame_live n d world tables invokes b gives outside scope f s k w m h1 z)
        (record { birth = birth; is = refl; region = is }, tt)
        (λ at w2 m2 i2 g2 new full st settles. record {
          by = λ next go2. (follows n d world tables invokes b gives outside scope f x (Stored handle_type g.frame) HandleShape p rest
              (go below) at new.region s none k w m w2 m2 i2 g2
              (scene_local d world tables outside scope f x handle_type at gives h1 tt below new.region b inner s k w2 m2 (HandleOf birth ∷ []) refl
              (scene_later d outside scope f b b s s k w m w2 m2 i2 g2
              (stands_typed d outside scope f s w m w2 m2 g2.types settles.cells z.stands) z) full
              (made_apart n d world tables invokes b gives scope m m2 at new z.counted)
              (made_counted n d world tables invokes b gives scope m m2 at new))).by next
              (λ flow m3 a. go2 flow m3 (record {
                ghost = a.ghost;
                inv = a.inv;
                grows = a.grows;
                holds = out (entering g inner p s) flow a.ghost m3 a.holds;
              }));
        })

    pub leaves_open : Going → Leaves n d gives g scope f b (λ s. lending g at y (entering g inner p) s) (open_key scope x.text y.text rest)
    leaves_open go = λ s none k w m i q. by s none k w m i q (find_local g.locals y.text) refl
      where
        ends : States → Flow → Memory → (k : ℕ) (w : Ghost) (m : Memory) → Type 0
        ends s flow m' k w m = After d k b w m (λ w2 m2. WaysStand d gives g scope f (lending g at y (entering g inner p) s) flow w2 m2) m'

        handled : ℕ → Act Flow
        handled birth = local_with scope x.text HandleShape (HandleOf birth ∷ []) rest

        act : Option Entity → Act Flow
        act e = operand_of e >>= λ u. with_key u.at handled

        here : (s : States) → (lending g at y (entering g inner p) s).faults ≡ [] → (k : ℕ) (w : Ghost) (m : Memory) → Inv d w m → Scene d g scope f b b s k w m
            → (own : Own d g scope f y.text source) → Runs n (with_key own.at handled) m (λ flow m'. ends s flow m' k w m)
        here s none k w m i q own =
            open_leaves n d gives g scope f b z y at o.region own (entering g inner p) k s w m l.value handled i q.names under q.stands scoped l.typed
            l.there none
            (λ birth w1 m1 is i1 g1 names1 st1 none1. inside go under lent none1 (suc k) w1 m1 birth is i1
            (scene_open d g scope f o.region b lent (suc k) w1 m1 names1
            (scene_more d g scope f b b lent k w1 m1 (scene_later d g scope f b b s lent k w m w1 m1 i1 g1 st1 q))))
          where
            z : Setting d g scope f b b
            z = setting n d g scope f b b (agrees_here d world tables g scope f gives h) s k w m q

            lent : States
            lent = with_state g.locals y.text Lent s

            facts : Loan n d gives g scope f b z y source own at (entering g inner p) s
            facts = loan n d gives g scope f b z y source own at (entering g inner p) s w m q.stands none

            l : Lends n d gives g scope f b z y source own s w m
            l = lends n d gives g scope f b z y source own refl k s w m q.stands (ap (need_held y.at) facts.0)

            meaning_of : meant g y.text ≡ Some (OfValue (Stored source own.region))
            meaning_of = local_meant g.locals g.tables y.text own.local own.found ∙ ap (λ (u : What). Some (OfValue u)) own.what

            under : Below g.regions.count o.region
            under = (h.binds.variables y.text (Stored source own.region) meaning_of).below

            scoped : w.owner own.at.region ≡ Nobody
            scoped =
                let lies : InOwn b own.at m = in_own n d g scope f b b (agrees_here d world tables g scope f gives h) y source own s k w m q in
                ap w.owner lies.region ∙ i.frames lies.frame

        by : (s : States) → (lending g at y (entering g inner p) s).faults ≡ [] → (k : ℕ) (w : Ghost) (m : Memory) → Inv d w m → Scene d g scope f b b s k w m
            → (l : Option Local) → find_local g.locals y.text ≡ l
            → Runs n (act (entity_of scope y.text)) m (λ flow m'. ends s flow m' k w m)
        by s none k w m i q None found = absurd (let u = ap (λ (l : Option Local). (lent_to l g.locals at y (entering g inner p) s).faults) (sym found)
            ∙ none in cc)
        by s none k w m i q (Some l) found =
            let own : Own d g scope f y.text source = key_own d g scope f y l h.binds found o in
            subst (λ (e : Option Entity). Runs n (act e) m (λ flow m'. ends s flow m' k w m)) (sym own.bound) (here s none k w m i q own)

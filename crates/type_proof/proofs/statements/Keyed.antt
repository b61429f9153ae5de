-- `new_ukey`: a dynamic region is born closed, and its key, on its way to the local, has the right.
use Rattle.std.proofs.Common.{◌≡◌, ℕ, ◌+◌, Bool, true, false, List, [], ◌∷◌, refl, ap, arith}
use Rattle.std.specs.Prelude.{if◌then◌else◌}
use Rattle.std.proofs.lemmas.Bool.{false≢true}
use Rattle.cyc_tree.specs.Tree as tree
use Rattle.cyc_words.specs.Events.{KeyNew}
use Rattle.source_meaning.specs.Shapes.{KeyShape}
use Rattle.source_meaning.specs.Memory.{Region, Born, KeyOf, Closed, Frame, Memory}
use Rattle.source_meaning.specs.Steps.{Variable, World, Scope, Flow, Falls, Breaks, Continues, Returns, Act}
use Rattle.source_meaning.specs.Places.{with_binding}
use Rattle.source_meaning.specs.Regions.{local_with, new_key}
use Rattle.source_meaning.proofs.Cases.{region_itself}
use Rattle.source_typing.specs.Left.{Left, entering}
use Rattle.source_typing.specs.Scope.{Env, next_region}
use Rattle.source_typing.specs.States.{States}
use Rattle.source_typing.specs.Tables as typing
use Rattle.source_typing.specs.Tables.{Stored}
use Rattle.source_typing.specs.Types.{StaticType, Key}
use Rattle.source_typing.specs.Written.{RegionNamed}
use Rattle.type_proof.specs.Flat.{Tables}
use Rattle.type_proof.specs.Judged.{extended}
use Rattle.type_proof.proofs.Entries.{Invokes}
use Rattle.type_proof.proofs.invariant.Invariant.{RunType, Flying, Ghost, HasType, Inv, Grows}
use Rattle.type_proof.proofs.invariant.Births.{Births, bearing, with_birth, inv_birth}
use Rattle.type_proof.proofs.invariant.Growth.{grows_birth, grows_trans}
use Rattle.type_proof.proofs.invariant.Runs.{Runs}
use Rattle.type_proof.proofs.invariant.After.{After, runs_show}
use Rattle.type_proof.proofs.invariant.Names.{NameOf, naming, names_later}
use Rattle.type_proof.proofs.invariant.NamesMore.{names_named}
use Rattle.type_proof.proofs.invariant.Objects.{runs_made}
use Rattle.type_proof.proofs.invariant.Received.{kept_as, kept_type}
use Rattle.type_proof.proofs.invariant.Scenes.{Scene, scene_later, stands_typed}
use Rattle.type_proof.proofs.invariant.Sound.{cells_type}
use Rattle.type_proof.proofs.invariant.Standing.{LocalsBelow}
use Rattle.type_proof.proofs.expressions.Single.{above_block, block_births}
use Rattle.type_proof.proofs.statements.AliasScope.{with_named, surrounds_name, scene_name}
use Rattle.type_proof.proofs.statements.Declared.{Follows, frame_live, follows, made_apart, made_counted}
use Rattle.type_proof.proofs.statements.Flows.{WaysStand, Leaves}
use Rattle.type_proof.proofs.statements.Statements.{way_out}
use Rattle.type_proof.proofs.statements.Surroundings.{Surrounds, scene_local, naming_itself}

module _ (n : ℕ) (d : Tables) (world : World) (tables : typing.Tables) (invokes : Invokes n d world tables) (b : ℕ) (gives : RunType) (g : Env)
    (scope : Scope) (f : NameOf → Region) (names : List RegionNamed) (x : tree.Name) (p : States → Left) (rest : Scope → Act Flow)
    (h : Surrounds d world tables g scope f gives)
  where
    abbrev pub key_type : StaticType
    key_type = Key (next_region g)

    abbrev pub outside : Env
    outside = with_named false g names

    abbrev pub inner : Env
    inner = extended outside x key_type

    abbrev pub named_as : Region → NameOf → Region
    named_as q = naming f g.regions.count q

    -- what follows, wherever the local lies
    abbrev pub Going : Type 0
    Going = (a : ℕ) → Follows n d world tables invokes b gives outside scope (named_as (Born a)) x (Stored key_type g.frame) KeyShape p rest

    -- the name goes out of scope
    out : (q : Region) → LocalsBelow g.regions.count g.locals → (l : Left) (flow : Flow) (w : Ghost) (m : Memory)
        → WaysStand d gives outside scope (named_as q) l flow w m → WaysStand d gives g scope f l flow w m
    out q below l Falls w m z = way_out n d world tables invokes b gives g scope scope f q l.falls w m m refl below (λ s. refl) z
    out q below l Breaks w m z = (way_out n d world tables invokes b gives g scope scope f q l.breaks w m m refl below (λ s. refl) z.0, z.1)
    out q below l Continues w m z = (way_out n d world tables invokes b gives g scope scope f q l.continues w m m refl below (λ s. refl) z.0, z.1)
    out q below l (Returns vs) w m z = z

    module _ (go : Going) (s : States) (none : (entering g inner p s).faults ≡ []) (k : ℕ) (w : Ghost) (m : Memory) (i : Inv d w m)
        (z : Scene d g scope f b b s k w m)
      where
        r : Region
        r = Born m.births

        births : Births w m m.activations (m.births + 1) (Born m.births) Closed (above_block (Born m.births)) (Flying k 0) true
        births = block_births d w m Closed (Flying k 0) true i refl

        abbrev w1 : Ghost
        w1 = bearing w (Born m.births) (above_block (Born m.births)) (Flying k 0) true

        abbrev m1 : Memory
        m1 = with_birth m m.activations (m.births + 1) (Born m.births) Closed

        i1 : Inv d w1 m1
        i1 = inv_birth d w m m.activations (m.births + 1) (Born m.births) Closed (above_block (Born m.births)) (Flying k 0) true i births

        g1 : Grows k b w m w1 m1
        g1 = grows_birth d k b w m m.activations (m.births + 1) (Born m.births) Closed (above_block (Born m.births)) (Flying k 0) true i births (λ e. cc)

        abbrev post : Flow → Memory → Type 0
        post flow = After d k b w m (λ w' m'. WaysStand d gives g scope f (entering g inner p s) flow w' m')

        h1 : Surrounds d world tables outside scope (named_as (Born m.births)) gives
        h1 = surrounds_name false d world tables g scope f gives names (Born m.births) h

        z1 : Scene d outside scope (named_as (Born m.births)) b b s k w1 m1
        z1 = scene_name false d world tables g scope f gives names (Born m.births) b s k w1 m1 h
            (names_named d g.regions f k w1 m1 (Born m.births) false i1 births.here (λ e. absurd (false≢true e)) (λ e. absurd (false≢true e))
            (names_later d g.regions f k b w m w1 m1 i1 g1 z.names))
            (scene_later d g scope f b b s s k w m w1 m1 i1 g1
            (stands_typed d g scope f s w m w1 m1 (λ y q e. e) (λ y q e. refl) z.stands) z)

        typed : HasType d w1 (Flying k 0) (KeyOf m.births) (Key (named_as (Born m.births) (next_region g)))
        typed = record {
          birth = m.births;
          is = refl;
          region = naming_itself f g.regions.count (Born m.births);
          owner = ap (λ (c : Bool). if c then Flying k 0 else w.owner (Born m.births)) (region_itself (Born m.births));
          keyed = ap (λ (c : Bool). if c then true else w.keyed (Born m.births)) (region_itself (Born m.births));
        }

        -- the key is a local of the block
        declared : Runs n (local_with scope x.text KeyShape (KeyOf m.births ∷ []) rest) m1 post
        declared =
            runs_made d n k b (kept_as g.tables key_type) w1 m1 (Frame scope.frame) (cells_type d (named_as (Born m.births)) key_type) (KeyOf m.births ∷ [])
            (λ at. rest (with_binding scope x.text (Variable KeyShape at))) post (kept_type g.tables key_type) i1
            (frame_live n d world tables invokes b gives outside scope (named_as (Born m.births)) s k w1 m1 h1 z1) (typed, tt)
            (λ at w2 m2 i2 g2 new full st settles. record {
              by = λ next go2. (follows n d world tables invokes b gives outside scope (named_as (Born m.births)) x (Stored key_type g.frame) KeyShape p rest
                  (go m.births) at new.region s none k w m w2 m2 i2 (grows_trans g1 g2)
                  (scene_local d world tables outside scope (named_as (Born m.births)) x key_type at gives h1 tt (omega arith) new.region b inner s k w2 m2
                  (KeyOf m.births ∷ []) refl
                  (scene_later d outside scope (named_as (Born m.births)) b b s s k w1 m1 w2 m2 i2 g2
                  (stands_typed d outside scope (named_as (Born m.births)) s w1 m1 w2 m2 g2.types settles.cells z1.stands) z1) full
                  (made_apart n d world tables invokes b gives scope m1 m2 at new z1.counted)
                  (made_counted n d world tables invokes b gives scope m1 m2 at new))).by next
                  (λ flow m3 a. go2 flow m3 (record {
                    ghost = a.ghost;
                    inv = a.inv;
                    grows = a.grows;
                    holds = out (Born m.births) z.below (entering g inner p s) flow a.ghost m3 a.holds;
                  }));
            })

        born : Runs n (new_key scope x.text rest) m post
        born = record {
          by = λ next q. (runs_show n (KeyNew m.births) (local_with scope x.text KeyShape (KeyOf m.births ∷ []) rest) m1 post declared).by next q;
        }

    pub leaves_key : Going → Leaves n d gives g scope f b (λ s. entering g inner p s) (new_key scope x.text rest)
    leaves_key go = λ s none k w m i z. born go s none k w m i z

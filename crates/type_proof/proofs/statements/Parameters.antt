-- A result lands with its caller, and a function's parameters are in scope.
use Rattle.std.proofs.Common.{◌≡◌, ℕ, suc, ◌+◌, ◌<◌, ◌≤◌, Bool, List, [], ◌∷◌, refl, sym, ◌∙◌, ap, subst, arith}
use Rattle.std.specs.Prelude.{length, map}
use Rattle.source_meaning.specs.Shapes.{Shape, Part, part_shapes}
use Rattle.source_meaning.specs.Memory.{Region, Frame, Spot, Scalar, State, Memory}
use Rattle.source_meaning.specs.Steps.{Entity, Binding, Variable, World, Scope}
use Rattle.source_meaning.specs.Places.{with_binding}
use Rattle.source_typing.specs.Scope.{Env, Local}
use Rattle.source_typing.specs.Tables as typing
use Rattle.source_typing.specs.Types.{StaticType, renamed, shape_of}
use Rattle.source_typing.specs.Left.{begins_as}
use Rattle.source_typing.specs.States.{States}
use Rattle.type_proof.proofs.invariant.Standing.{ApartFrom, EntityApart}
use Rattle.type_proof.specs.Flat.{Tables, flat}
use Rattle.source_typing.specs.Named.{TypesBelow}
use Rattle.type_proof.specs.Judged.{extended}
pub use Rattle.type_proof.specs.Programs.{name_alone, with_all}
use Rattle.type_proof.proofs.invariant.Invariant as invariant
use Rattle.type_proof.proofs.invariant.Invariant.{RunType, heap, Owner, Nobody, Flying, Pinned, InCell, Freed, Kept, Ghost, Steady, Inv, Grows}
use Rattle.type_proof.proofs.invariant.Values.{Carries, values_kept}
use Rattle.type_proof.proofs.invariant.Moves.{passing, Class, inv_cells, cell_kept}
use Rattle.type_proof.proofs.invariant.Growth.{grows_cells}
use Rattle.type_proof.proofs.invariant.After.{flying}
use Rattle.type_proof.proofs.invariant.Arguments.{Flown, Shaped, Landed, bound_all}
use Rattle.type_proof.proofs.invariant.Names.{NameOf}
use Rattle.type_proof.proofs.invariant.Scenes.{Alike, renamed_alike, Scene}
use Rattle.type_proof.proofs.invariant.Sound.{shape_renamed}
use Rattle.type_proof.proofs.Entries.{AreObjects}
use Rattle.type_proof.proofs.statements.Surroundings.{Surrounds, surrounds_local, scene_local, type_up}
use Rattle.type_proof.proofs.invariant.Objects.{FullAt}
use Rattle.type_proof.proofs.invariant.Received.{kept_if, kept_as, erased, copies_same}

-- a result is on its way again once all blocks of the function were left
abbrev pub landing : ℕ → Owner → Owner
landing k Nobody = Nobody
landing k (Flying i c) = Flying i c
landing k (invariant.Returned c) = Flying k c
landing k (Pinned i) = Pinned i
landing k (InCell s) = InCell s
landing k Freed = Freed

pub land_class : (k : ℕ) → Class (landing k)
land_class k = record { state = held; steady = stands; nobody = was; free = refl }
  where
    held : (o : Owner) (keyed : Bool) (st : State) → invariant.StateOk o keyed st → invariant.StateOk (landing k o) keyed st
    held Nobody keyed st h = h
    held (Flying j c) keyed st h = h
    held (invariant.Returned c) keyed st h = h
    held (Pinned j) keyed st h = h
    held (InCell x) keyed st h = h
    held Freed keyed st h = h

    stands : (o : Owner) → Steady o → Steady (landing k o)
    stands Nobody h = h
    stands (Flying j c) h = elim h [ ]
    stands (invariant.Returned c) h = elim h [ ]
    stands (Pinned j) h = h
    stands (InCell x) h = elim h [ ]
    stands Freed h = elim h [ ]

    was : (o : Owner) → landing k o ≡ Nobody → o ≡ Nobody
    was Nobody h = h
    was (Flying j c) h = absurd (cc)
    was (invariant.Returned c) h = absurd (cc)
    was (Pinned j) h = absurd (cc)
    was (InCell x) h = absurd (cc)
    was Freed h = absurd (cc)

pub inv_landed : (d : Tables) (k : ℕ) (w : Ghost) (m : Memory) → Inv d w m → Inv d (passing (landing k) w) m
inv_landed d k w m i = inv_cells d w m (landing k) m.cells i (land_class k) (λ s q e. cell_kept d w (passing (landing k) w) s (m.cells s) q
    (record { types = λ x u h. h; above = λ x y h. h; owner = λ x h. ap (landing k) h; keyed = λ x h. refl }) (i.cells s q e))

pub grows_landed : (k b : ℕ) (w : Ghost) (m : Memory) → Grows k b w m (passing (landing k) w) m
grows_landed k b w m = grows_cells k b w m (landing k) m.cells (land_class k) (λ i j l. refl) (λ i. refl) (λ s t j e l h. refl) (λ s e. refl)

-- values on their way, in another ghost in which rights are held as before
pub flown_moved : (d : Tables) (k : ℕ) (w w' : Ghost) (vss : List (List Scalar)) (ts : List RunType) → ((o : Owner) → (o ≡ Nobody → ⊥) → Carries w w' o o)
    → Flown d w k vss ts → Flown d w' k vss ts
flown_moved d k w w' [] [] c h = tt
flown_moved d k w w' (vs ∷ vss) (t ∷ ts) c h =
    (values_kept d w w' (flying k 0) (flying k 0) vs (flat heap d t) (λ j. c (flying k 0 j) (λ e. cc)) h.0, flown_moved d (suc k) w w' vss ts c h.1)
flown_moved d k w w' [] (t ∷ ts) c h = absurd h
flown_moved d k w w' (vs ∷ vss) [] c h = absurd h

-- ---- parameters

-- shapes of parameters are those of their types
pub all_shaped : (f : NameOf → Region) (ps : List Part) (ts : List StaticType) → part_shapes ps ≡ map shape_of ts → Shaped ps (map (renamed f) ts)
all_shaped f [] [] e = tt
all_shaped f (p ∷ ps) (t ∷ ts) e =
    let a : p.shape ≡ shape_of t = cc in let c : part_shapes ps ≡ map shape_of ts = cc in (a ∙ sym (shape_renamed f t), all_shaped f ps ts c)
all_shaped f [] (t ∷ ts) e = absurd cc
all_shaped f (p ∷ ps) [] e = absurd cc

-- types of names that stand for the same
pub types_alike : (n : ℕ) (f h : NameOf → Region) (ts : List StaticType) → Alike n f h → TypesBelow n ts → map (renamed h) ts ≡ map (renamed f) ts
types_alike n f h [] e l = refl
types_alike n f h (t ∷ ts) e l =
    let a : renamed h t ≡ renamed f t = renamed_alike n f h t e l.0 in let c : map (renamed h) ts ≡ map (renamed f) ts = types_alike n f h ts e l.1 in cc

pub types_up : (n : ℕ) (ts : List StaticType) → TypesBelow n ts → TypesBelow (n + 1) ts
types_up n [] l = tt
types_up n (t ∷ ts) l = (type_up n t l.0, types_up n ts l.1)

-- the states in which locals begin
abbrev pub beginning : Env → List Local → States
beginning top ls = map (λ l. begins_as top l.what) ls

-- the parameters so far are the first objects of their block
abbrev EntityUnder : ℕ → Entity → Type 0
EntityUnder o (Variable sh at) = at.object < o

abbrev pub AllUnder : ℕ → List Binding → Type 0
AllUnder o [] = Unit {0}
AllUnder o (y ∷ bs) = EntityUnder o y.entity × AllUnder o bs

under_more : (o c : ℕ) (bs : List Binding) → o ≤ c → AllUnder o bs → AllUnder c bs
under_more o c [] l h = tt
under_more o c (y ∷ bs) l h = (one y.entity h.0, under_more o c bs l h.1)
  where
    one : (e : Entity) → EntityUnder o e → EntityUnder c e
    one (Variable sh at) q = omega (arith, l, q)

under_apart : (o : ℕ) (at : Spot) (bs : List Binding) → o ≤ at.object → AllUnder o bs → ApartFrom at bs
under_apart o at [] l h = tt
under_apart o at (y ∷ bs) l h = (one y.entity h.0, under_apart o at bs l h.1)
  where
    one : (e : Entity) → EntityUnder o e → EntityApart at e
    one (Variable sh s) q = λ u v. omega (arith, l, q, v)

-- how a parameter's cells are kept, by its type in the run
abbrev pub kept_parameter : typing.Tables → RunType → RunType → Kept
kept_parameter tables t u = kept_as tables (erased t) u

-- parameters leave the tables as they are
pub with_all_tables : (ps : List Part) (ts : List StaticType) (g : Env) → (with_all ps ts g).tables ≡ g.tables
with_all_tables [] ts g = refl
with_all_tables (p ∷ ps) [] g = refl
with_all_tables (p ∷ ps) (t ∷ ts) g = with_all_tables ps ts (extended g (name_alone p.name) t)

module _ (d : Tables) (world : World) (tables : typing.Tables) (f : NameOf → Region) (gives : RunType) (a : ℕ) (top : Env)
    (same : top.tables ≡ tables)
  where
    -- what is known once all parameters are in scope
    pub record AllBound (g g' : Env) (scope scope' : Scope) (w : Ghost) (m : Memory) : Type 0 where
      pub surrounds : Surrounds d world tables g' scope' f gives
      pub scene : (b k : ℕ) → Scene d g scope f b b (beginning top g.locals) k w m → Scene d g' scope' f b b (beginning top g'.locals) k w m
      pub in_loop : g'.in_loop ≡ g.in_loop
      pub in_switch : g'.in_switch ≡ g.in_switch
      pub result : g'.result ≡ g.result

    pub all_bound : (o : ℕ) (ps : List Part) (ts : List StaticType) (ss : List Spot) (vss : List (List Scalar)) (g : Env) (scope : Scope) (w : Ghost)
        (m : Memory)
        → Surrounds d world tables g scope f gives → scope.frame ≡ a → AreObjects ts → TypesBelow g.regions.count ts → part_shapes ps ≡ map shape_of ts
        → AllUnder o scope.locals
        → Landed d (kept_parameter tables) a o w m ss (map (renamed f) ts) vss → AllBound g (with_all ps ts g) scope (bound_all scope ps ss) w m
    all_bound o [] [] [] [] g scope w m h at_frame i q e under l = record { surrounds = h; scene = λ b k z. z; in_loop = refl; in_switch = refl; result = refl }
    all_bound o (p ∷ ps) (t ∷ ts) (s ∷ ss) (vs ∷ vss) g scope w m h at_frame i q e under l =
        let shape : shape_of t ≡ p.shape = cc in
        let others : part_shapes ps ≡ map shape_of ts = cc in
        let there : s.region ≡ Frame scope.frame = l.0 ∙ ap (λ (j : ℕ). Frame j) (sym at_frame) in
        let full : FullAt (kept_as g.tables t) w m s (flat heap d (renamed f t)) vs =
        subst (λ (y : typing.Tables). FullAt (kept_as y t) w m s (flat heap d (renamed f t)) vs) (sym h.tables_are)
        (subst (λ (c : Bool). FullAt (kept_if c) w m s (flat heap d (renamed f t)) vs) (copies_same (length tables) tables f t) l.1) in
        let counted : s.object < m.objects s.region = subst (λ (r : Region). s.object < m.objects r) (sym l.0) l.4 in
        let h1 = surrounds_local d world tables g scope f (name_alone p.name) t s gives h i.0 q.0 there in
        let more : AllUnder (suc s.object) scope.locals = under_more o (suc s.object) scope.locals (let z : o ≤ s.object = l.3 in omega (arith, z)) under in
        let r : AllBound (extended g (name_alone p.name) t) (with_all ps ts (extended g (name_alone p.name) t))
        (with_binding scope p.name (Variable (shape_of t) s))
        (bound_all (with_binding scope p.name (Variable (shape_of t) s)) ps ss) w m =
        all_bound (suc s.object) ps ts ss vss (extended g (name_alone p.name) t) (with_binding scope p.name (Variable (shape_of t) s)) w m h1 at_frame i.1 q.1
        others (omega arith, more) l.2 in
        subst (λ (y : Shape). AllBound g (with_all ps ts (extended g (name_alone p.name) t)) scope
        (bound_all (with_binding scope p.name (Variable y s)) ps ss) w
        m) shape
        (record {
          surrounds = r.surrounds;
          scene = λ b k z. r.scene b k (scene_local d world tables g scope f (name_alone p.name) t s gives h i.0 q.0 there b top
              (beginning top g.locals) k w m vs (same ∙ sym h.tables_are) z full
              (under_apart o s scope.locals l.3 under) counted);
          in_loop = r.in_loop;
          in_switch = r.in_switch;
          result = r.result;
        })
    all_bound o [] (t ∷ ts) ss vss g scope w m h at_frame i q e under l = absurd cc
    all_bound o (p ∷ ps) [] ss vss g scope w m h at_frame i q e under l = absurd cc
    all_bound o [] [] (s ∷ ss) vss g scope w m h at_frame i q e under l = absurd l
    all_bound o [] [] [] (vs ∷ vss) g scope w m h at_frame i q e under l = absurd l
    all_bound o (p ∷ ps) (t ∷ ts) [] vss g scope w m h at_frame i q e under l = absurd l
    all_bound o (p ∷ ps) (t ∷ ts) (s ∷ ss) [] g scope w m h at_frame i q e under l = absurd l

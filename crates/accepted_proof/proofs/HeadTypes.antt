-- The types of a function's parameters and of its result: objects whose regions are the heap, a region variable that was there
-- before, or a fresh one.
use Rattle.std.proofs.Common.{◌≡◌, ℕ, suc, ◌<◌, ◌≤◌, Bool, true, false, Option, Some, None, List, [], ◌∷◌, refl, sym, ap, subst, ◌∙◌, arith}
use Rattle.std.specs.Prelude.{bytes_eq, if◌then◌else◌, length, map, ◌||◌, ◌++◌}
use Rattle.cyc_tree.specs.Tree as tree
use Rattle.cyc_tree.specs.Tree.{Pointer, TypeName}
use Rattle.source_lowering.specs.Taken.{IsVoidBase, IsVoidType}
use Rattle.source_meaning.specs.Shapes as shapes
use Rattle.source_meaning.specs.Shapes.{VoidShape}
use Rattle.type_proof.specs.Entries.{IsObjectType, IsPlain}
use Rattle.source_typing.specs.Named.{AllBelow, Below, TypeBelow, NamesBelow}
use Rattle.type_proof.proofs.Entries.{object_plain}
use Rattle.source_typing.specs.Functions.{AllSpotted, Spotted, Variables, fits_parameter, if_parameter, if_result, parameter_type, result_type, take_named}
use Rattle.source_typing.specs.Functions.{take_spot, take_spots}
use Rattle.source_typing.specs.Regions.{Level, Region, TheHeap}
use Rattle.source_typing.specs.Tables.{Tables}
use Rattle.source_typing.specs.Tags.{settled_alone}
use Rattle.source_typing.specs.Types.{Fat, Handle, Char, Int, Key, PartialType, StaticType, Struct, Thin, Union, Unique, Unsigned, Void, is_void, shape_of}
use Rattle.source_typing.specs.Verdicts.{after, if_fits}
use Rattle.source_typing.specs.Written.{Found, Is, IsUnique, Missing, RegionNamed, Spot, base_spots, find_region, spot, spots_of, written, written_with}
use Rattle.source_typing.proofs.NamedBelow.{below_more}
use Rattle.accepted_proof.specs.Good.{Surely}
use Rattle.accepted_proof.proofs.FoundRegions.{AreAllFound, AreArguments, FoundBelow, IsFoundAs, base_arguments}
use Rattle.accepted_proof.proofs.good.Pointers.{IsWritten, RegionBelow, WritesKey, WritesNothing, WritesObject}
use Rattle.accepted_proof.proofs.good.Types.{KnowsTags, scope_written, written_good}
use Rattle.accepted_proof.proofs.good.Locals.{IsSettled, heap_below, object_settled}
use Rattle.accepted_proof.proofs.Owners.{settled_alone_is}
use Rattle.accepted_proof.proofs.Sure.{surely_after, surely_also}

-- ---- more region names

all_more : (n m : ℕ) (rs : List Region) → n ≤ m → AllBelow n rs → AllBelow m rs
all_more n m [] l h = tt
all_more n m (r ∷ rs) l h = (below_more n m r l h.0, all_more n m rs l h.1)

pub object_more : (n m : ℕ) (t : StaticType) → n ≤ m → IsObjectType t → TypeBelow n t → TypeBelow m t
object_more n m Int l w h = tt
object_more n m Unsigned l w h = tt
object_more n m Char l w h = tt
object_more n m (Thin b r t) l w h = (below_more n m r l h.0, object_more n m t l w h.1)
object_more n m (Fat r t) l w h = (below_more n m r l h.0, object_more n m t l w h.1)
object_more n m (Unique b t) l w h = object_more n m t l w h
object_more n m (Struct tag rs) l w h = all_more n m rs l h
object_more n m (Union tag rs) l w h = all_more n m rs l h
object_more n m (Handle r) l w h = below_more n m r l h
object_more n m (Key r) l w h = below_more n m r l h
object_more n m _ l w h = absurd w

found_more : (n m : ℕ) (f : Found) → n ≤ m → FoundBelow n f → FoundBelow m f
found_more n m (Is r) l h = below_more n m r l h
found_more n m IsUnique l h = tt
found_more n m Missing l h = tt

-- ---- the regions of a parameter's type

-- the region of a name in scope
pub find_below : (n : ℕ) (names : List RegionNamed) (x : List ℕ) → NamesBelow n names → RegionBelow n (find_region names x)
find_below n [] x h = tt
find_below n (m ∷ ms) x h = by (bytes_eq m.name x) (find_below n ms x h.1)
  where
    by : (b : Bool) → RegionBelow n (find_region ms x) → RegionBelow n (if b then Some m.id else find_region ms x)
    by true others = h.0
    by false others = others

names_more : (n m : ℕ) (names : List RegionNamed) → n ≤ m → NamesBelow n names → NamesBelow m names
names_more n m [] l h = tt
names_more n m (x ∷ xs) l h = (below_more n m x.id l h.0, names_more n m xs l h.1)

-- one region, and the region variables after it
record SpotGood (vs : Variables) (s : Spotted) : Type 0 where
  found : FoundBelow s.after_it.count s.found
  names : NamesBelow s.after_it.count s.after_it.names
  more : vs.count ≤ s.after_it.count

spot_good : (vs : Variables) (r : Option tree.RegionName) → NamesBelow vs.count vs.names → SpotGood vs (take_spot vs r true)
spot_good vs None h =
    let less : vs.count ≤ suc vs.count = omega arith in
    record { found = omega arith; names = names_more vs.count (suc vs.count) vs.names less h; more = less }
spot_good vs (Some (tree.Heap at)) h = record { found = tt; names = h; more = omega arith }
spot_good vs (Some (tree.Unique at)) h = record { found = tt; names = h; more = omega arith }
spot_good vs (Some (tree.Named x)) h = by (find_region vs.names x.text) (find_below vs.count vs.names x.text h)
  where
    by : (o : Option Region) → RegionBelow vs.count o → SpotGood vs (take_named vs x o)
    by (Some r) b = record { found = b; names = h; more = omega arith }
    by None b =
        let less : vs.count ≤ suc vs.count = omega arith in
        let last : vs.count < suc vs.count = omega arith in
        record { found = last; names = (last, names_more vs.count (suc vs.count) vs.names less h); more = less }

-- each is what it is written to be, or a region variable
spot_found : (vs : Variables) (r : Option tree.RegionName) → IsFoundAs false r (take_spot vs r true).found
spot_found vs None = refl
spot_found vs (Some (tree.Heap at)) = tt
spot_found vs (Some (tree.Unique at)) = tt
spot_found vs (Some (tree.Named x)) = by (find_region vs.names x.text)
  where
    by : (o : Option Region) → IsFoundAs false (Some (tree.Named x)) (take_named vs x o).found
    by (Some r) = tt
    by None = tt

-- one that is no pointer's
argument_good : (vs : Variables) (r : Option tree.RegionName) → NamesBelow vs.count vs.names → SpotGood vs (take_spot vs r false)
argument_good vs None h = spot_good vs None h
argument_good vs (Some (tree.Heap at)) h = spot_good vs (Some (tree.Heap at)) h
argument_good vs (Some (tree.Unique at)) h = record { found = tt; names = h; more = omega arith }
argument_good vs (Some (tree.Named x)) h = spot_good vs (Some (tree.Named x)) h

-- those of so many region arguments, and of all pointers of a type
pub record SpotsGood (vs : Variables) (m : ℕ) (ps : List Pointer) (s : AllSpotted) : Type 0 where
  pub found : AreAllFound false s.after_all.count m ps s.found
  pub names : NamesBelow s.after_all.count s.after_all.names
  pub more : vs.count ≤ s.after_all.count

pointer_spots_good : (vs : Variables) (ps : List Pointer) → NamesBelow vs.count vs.names
    → SpotsGood vs 0 ps (take_spots vs (map (λ (p : Pointer). spot true p.region) ps))
pointer_spots_good vs [] h = record { found = tt; names = h; more = omega arith }
pointer_spots_good vs (p ∷ ps) h =
    let one : Spotted = take_spot vs p.region true in
    let first : SpotGood vs one = spot_good vs p.region h in
    let others : SpotsGood one.after_it 0 ps (take_spots one.after_it (map (λ (q : Pointer). spot true q.region) ps)) =
    pointer_spots_good one.after_it ps first.names in
    let last : ℕ = (take_spots one.after_it (map (λ (q : Pointer). spot true q.region) ps)).after_all.count in
    let a : vs.count ≤ one.after_it.count = first.more in
    let b : one.after_it.count ≤ last = others.more in
    record {
      found = (spot_found vs p.region, found_more one.after_it.count last one.found b first.found, others.found);
      names = others.names;
      more = omega (arith, a, b);
    }

spots_good : (vs : Variables) (ss : List Spot) (ps : List Pointer) → AreArguments ss → NamesBelow vs.count vs.names
    → SpotsGood vs (length ss) ps (take_spots vs (ss ++ map (λ (p : Pointer). spot true p.region) ps))
spots_good vs [] ps a h = pointer_spots_good vs ps h
spots_good vs (s ∷ ss) ps a h =
    let one : Spotted = take_spot vs s.written s.of_pointer in
    let rest : List Spot = ss ++ map (λ (q : Pointer). spot true q.region) ps in
    let first : SpotGood vs one = subst (λ (b : Bool). SpotGood vs (take_spot vs s.written b)) (sym a.0) (argument_good vs s.written h) in
    let others : SpotsGood one.after_it (length ss) ps (take_spots one.after_it rest) = spots_good one.after_it ss ps a.1 first.names in
    let last : ℕ = (take_spots one.after_it rest).after_all.count in
    let c : vs.count ≤ one.after_it.count = first.more in
    let d : one.after_it.count ≤ last = others.more in
    record { found = (found_more one.after_it.count last one.found d first.found, others.found); names = others.names; more = omega (arith, c, d) }

-- and of a type
pub type_spots_good : (g : Tables) (vs : Variables) (t : TypeName) → NamesBelow vs.count vs.names
    → SpotsGood vs (length (base_spots g t.base)) t.pointers (take_spots vs (spots_of g t))
type_spots_good g vs t h = spots_good vs (base_spots g t.base) t.pointers (base_arguments g t.base) h

-- ---- a type that takes no missing regions from another one

-- the type of a variable or of a result, with what is written
pub record ObjectGood (n : ℕ) (t : TypeName) (u : StaticType) : Type 0 where
  pub object : IsObjectType u
  pub below : TypeBelow n u
  pub shape : shapes.settled (shapes.written t) ≡ shape_of u

pub data PlainGood (n : ℕ) (t : TypeName) (u : StaticType) : Type 0 where
  GivesObject : ObjectGood n t u → PlainGood n t u
  GivesNothing : IsVoidType t → u ≡ Void → PlainGood n t u

pub alone_good : (left_open : Bool) (n at : ℕ) (t : TypeName) (p : PartialType) → IsWritten left_open n t p → Surely (λ u. PlainGood n t u) (settled_alone at p)
alone_good left_open n at t p (WritesNothing v e) = subst (λ z. Surely (λ u. PlainGood n t u) (settled_alone at z)) (sym e) (GivesNothing v refl)
alone_good left_open n at t p (WritesKey w) =
    subst (λ z. Surely (λ u. PlainGood n t u) (settled_alone at z)) (sym w.is)
    (GivesObject (record { object = tt; below = heap_below n w.region w.below; shape = ap (λ s. shapes.settled s) w.shape }))
alone_good left_open n at t p (WritesObject w) =
    surely_also (λ u. IsSettled n (shapes.written t) None u) (λ u. PlainGood n t u) (settled_alone at p)
    (object_settled left_open n at (shapes.written t) p None (λ e. refl) w.object w.writes tt) (λ u f. GivesObject (record {
      object = f.object;
      below = f.below;
      shape = sym (settled_alone_is (shapes.written t)) ∙ f.shape;
    }))

-- ---- parameters

parameter_fits : (n at : ℕ) (t : TypeName) (u : StaticType) → PlainGood n t u → Surely (λ z. ObjectGood n t z) (if_parameter at u)
parameter_fits n at t u (GivesNothing v e) = subst (λ z. Surely (λ y. ObjectGood n t y) (if_parameter at z)) (sym e) tt
parameter_fits n at t u (GivesObject w) = by (fits_parameter u)
  where
    by : (b : Bool) → Surely (λ z. ObjectGood n t z) (if_fits b at u)
    by true = w
    by false = tt

pub parameter_good : (g : Tables) (vs : Variables) (t : TypeName) → KnowsTags g → NamesBelow vs.count vs.names
    → Surely (λ u. ObjectGood (take_spots vs (spots_of g t)).after_all.count t u) (parameter_type g t (take_spots vs (spots_of g t)))
parameter_good g vs t tags h =
    let s : AllSpotted = take_spots vs (spots_of g t) in
    let n : ℕ = s.after_all.count in
    surely_after (λ u. PlainGood n t u) (λ u. ObjectGood n t u) (after (written_with g t (s.found, s.faults)) (settled_alone t.at)) (if_parameter t.at)
    (surely_after (λ p. IsWritten false n t p) (λ u. PlainGood n t u) (written_with g t (s.found, s.faults)) (settled_alone t.at)
    (written_good false n g t s.found s.faults tags (λ clean. (type_spots_good g vs t h).found)) (λ p w. alone_good false n t.at t p w))
    (λ u w. parameter_fits n t.at t u w)

-- ---- results

result_fits : (n at : ℕ) (t : TypeName) (u : StaticType) → PlainGood n t u → Surely (λ z. PlainGood n t z) (if_result at u)
result_fits n at t u (GivesNothing v e) = subst (λ z. Surely (λ y. PlainGood n t y) (if_result at z)) (sym e) (GivesNothing v refl)
result_fits n at t u (GivesObject w) = by (is_void u || fits_parameter u)
  where
    by : (b : Bool) → Surely (λ z. PlainGood n t z) (if_fits b at u)
    by true = GivesObject w
    by false = tt

pub result_good : (n : ℕ) (g : Tables) (names : List RegionNamed) (t : TypeName) → KnowsTags g → NamesBelow n names
    → Surely (λ u. PlainGood n t u) (result_type g names t)
result_good n g names t tags h =
    surely_after (λ u. PlainGood n t u) (λ u. PlainGood n t u) (after (written g names t) (settled_alone t.at)) (if_result t.at)
    (surely_after (λ p. IsWritten true n t p) (λ u. PlainGood n t u) (written g names t) (settled_alone t.at) (scope_written n g names t tags h)
    (λ p w. alone_good true n t.at t p w))
    (λ u w. result_fits n t.at t u w)

-- what is known of a result, an object or nothing
pub record ResultGood (n : ℕ) (t : TypeName) (u : StaticType) : Type 0 where
  pub plain : IsPlain u
  pub below : TypeBelow n u
  pub shape : shapes.settled (shapes.written t) ≡ shape_of u

pub void_shape : (t : TypeName) → IsVoidType t → shapes.settled (shapes.written t) ≡ VoidShape
void_shape t h = subst (λ ps. shapes.settled (shapes.pointed ps (shapes.base_shape t.base)) ≡ VoidShape) (sym h.pointers) (by t.base h.base)
  where
    by : (b : tree.Base) → IsVoidBase b → shapes.settled (shapes.base_shape b) ≡ VoidShape
    by tree.Void i = refl
    by _ i = absurd i

pub result_facts : (n : ℕ) (t : TypeName) (u : StaticType) → PlainGood n t u → ResultGood n t u
result_facts n t u (GivesObject w) =
    record { plain = object_plain u w.object; below = w.below; shape = w.shape }
result_facts n t u (GivesNothing v e) = subst (λ z. ResultGood n t z) (sym e) (record {
  plain = tt;
  below = tt;
  shape = void_shape t v;
})

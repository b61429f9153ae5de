-- Handles, and what `new` and `rnew` make: the handle is there, the value is evaluated, then a block is asked for, and the value is stored to it.
use Rattle.std.proofs.Common.{◌≡◌, ℕ, ◌+◌, ◌≤◌, inl, List, [], ◌∷◌, ◌++◌, false, refl, sym, ap, subst, arith, Bool, true}
use Rattle.source_meaning.specs.Shapes.{NeverNull}
use Rattle.source_meaning.specs.Shapes.{HandleShape, Shape, IntShape, UnsignedShape, CharShape, VoidShape, ThinShape, FatShape, KeyShape, StructShape}
use Rattle.source_meaning.specs.Shapes.{UnionShape, ArrayShape}
use Rattle.source_meaning.specs.Memory as source
use Rattle.source_meaning.specs.Memory.{HandleOf}
use Rattle.source_meaning.specs.Steps as steps
use Rattle.source_meaning.specs.Steps.{give, ◌>>=◌}
use Rattle.source_meaning.specs.Conversions.{one}
use Rattle.source_meaning.specs.Making.{InRegion, Maker, heap_maker, maker_of, AsUnique}
use Rattle.source_meaning.specs.Places.{Sense, value_sense}
use Rattle.source_meaning.specs.Calls.{handle_maker, made}
use Rattle.core_meaning.specs.Memory.{Birth}
use Rattle.core_meaning.specs.Core.{Do, HeapHandle, Statement, Statements}
use Rattle.core_meaning.specs.Steps as core_steps
use Rattle.core_meaning.specs.Steps.{Config, with_temp}
use Rattle.core_meaning.specs.Meaning as meaning
use Rattle.source_lowering.specs.Lowered.{new_code_by, put, values_by, owner_in}
use Rattle.source_lowering.specs.Lowerable.{AreStructs, AreUnions, IsObject, TakesMember}
use Rattle.source_lowering.specs.Simulation.{AreKept, SameState, GivesAs, GrownAt, Next, Point, SameAt, within}
use Rattle.source_lowering.proofs.memory.Keeping.{later_self}
use Rattle.source_lowering.proofs.Runs.{stuck_same, put_all}
use Rattle.source_lowering.proofs.values.Integers.{object_target}
use Rattle.source_lowering.proofs.values.AnyValues.{one_same, thin_same, fat_same}
use Rattle.source_lowering.proofs.values.Values.{put_temp, kept_temp, temp_fits, put_value, over}
use Rattle.source_lowering.proofs.expressions.Variables.{Agrees}
use Rattle.source_lowering.proofs.expressions.Numbered.{AreNumbered}
use Rattle.source_lowering.proofs.expressions.WholeForms.{IsWholeAs}
use Rattle.source_lowering.proofs.expressions.Asking.{IsMaker}
use Rattle.source_lowering.proofs.expressions.StoredRequests.{MakesAs, made_act, whole_makes, value_makes}
use Rattle.cyc_tree.specs.Tree.{Made, One, Array}
use Rattle.std.proofs.lemmas.Bool.{false≢true}
use Rattle.source_lowering.proofs.expressions.Known.{in_one, maker_in}

-- the handle of a region is in a temporary
pub record MakerGoesOn (p : Point) (n d : ℕ) (m0 : source.Memory) (c0 : Config) (s : Maker → source.Memory → steps.Step)
    (k : Config → core_steps.Step) : Type 0 where
  pub above : p.regions.all ≤ d
  pub go : (m : source.Memory) (c : Config) (r : ℕ) → SameState p m c → GrownAt p m0 c0 m c → AreKept d c0 c → c.temps d ≡ Birth r
      → SameAt p n (s (InRegion r) m) (k c)

-- an act gives a region to make something in, and its code leaves the region's handle in a temporary
pub record GivesMaker (p : Point) (n d : ℕ) (act : steps.Act Maker) (code : List Statement) : Type 0 where
  pub same : (m : source.Memory) (c : Config) (s : Maker → source.Memory → steps.Step) (rest : Statements) (next : Next) → SameState p m c
      → MakerGoesOn p n d m c s (meaning.statements rest next) → SameAt p n (act s m) (meaning.statements (put code rest) next c)

-- ---- handles

-- the heap's handle is a value
pub heap_agrees : (p : Point) (n d : ℕ) → Agrees p n d (value_sense HandleShape (give (HandleOf 0 ∷ []))) HandleShape (Do (HeapHandle d) ∷ [])
heap_agrees p n d = record { shape_is = refl; taken = tt; looks = gives; values = gives }
  where
    gives : GivesAs p n d HandleShape (give (HandleOf 0 ∷ [])) (Do (HeapHandle d) ∷ [])
    gives = record {
      same = λ m c s rest next fits goes.
          put_value p n d m c m c HandleShape (HandleOf 0 ∷ []) (Birth 0) s (meaning.statements rest next) fits (later_self (within p) m c.memory)
          (λ k h. refl) refl (inl (record { value = HandleOf 0; alone = refl; shown = record { birth = 0; value = refl; shown = refl } })) goes;
    }

-- and gives the heap to make something in
pub heap_gives : (p : Point) (n d : ℕ) → GivesMaker p n d heap_maker (Do (HeapHandle d) ∷ [])
heap_gives p n d = record {
  same = λ m c s rest next fits goes.
      goes.go m (with_temp d (Birth 0) c) 0 (temp_fits p m c d (Birth 0) fits goes.above) (later_self (within p) m c.memory)
      (kept_temp d d (Birth 0) c c (omega arith) (λ k h. refl)) (put_temp d (Birth 0) c);
}

-- what is no handle is out of order there
pub handle_gives : (p : Point) (n d : ℕ) (e : Sense) (shape : Shape) (code : List Statement) → Agrees p n d e shape code
    → GivesMaker p n d (handle_maker e) code
handle_gives p n d e shape code agrees = record {
  same = λ m c s rest next fits goes.
      agrees.looks.same m c (λ vs. one vs (λ v. maker_of v s)) rest next fits (record {
        above = over goes.above (omega arith);
        go = λ m1 c1 vs fits1 later1 kept1 given1.
            one_same p.world p.program n shape m1 c1.memory vs d c1.temps (λ v. maker_of v s) _ agrees.taken given1
            (λ t word temp shape_is type_is small. stuck_same p.world p.program n _)
            (λ v o.
            thin_same p.world p.program n shape m1 c1.memory v (c1.temps d) (λ u. maker_of u s) _ o
            (λ x b. stuck_same p.world p.program n _) (λ t byte x lies leads. stuck_same p.world p.program n _))
            (λ birth x shape_is. goes.go m1 c1 birth fits1 later1 kept1 x)
            (λ birth is. stuck_same p.world p.program n _)
            (λ v o.
            fat_same p.world p.program n shape m1 c1.memory v (c1.temps d) (c1.temps (d + 1)) (c1.temps (d + 2)) (λ u. maker_of u s) _ o
            (λ x. stuck_same p.world p.program n _) (λ span byte x. stuck_same p.world p.program n _));
      });
}

-- ---- what is made

-- what comes after a maker is known: a region's handle is in a temporary, or a unique block is to be made
pub record MakesOn (p : Point) (n d : ℕ) (unique : Bool) (m0 : source.Memory) (c0 : Config) (s : Maker → source.Memory → steps.Step)
    (k : Config → core_steps.Step) : Type 0 where
  pub above : p.regions.all ≤ d
  pub go : (m : source.Memory) (c : Config) (to : Maker) → SameState p m c → GrownAt p m0 c0 m c → AreKept d c0 c → IsMaker unique to d c
      → SameAt p n (s to m) (k c)

pub record GivesTo (p : Point) (n d : ℕ) (unique : Bool) (act : steps.Act Maker) (code : List Statement) : Type 0 where
  pub same : (m : source.Memory) (c : Config) (s : Maker → source.Memory → steps.Step) (rest : Statements) (next : Next) → SameState p m c
      → MakesOn p n d unique m c s (meaning.statements rest next) → SameAt p n (act s m) (meaning.statements (put code rest) next c)

pub region_to : (p : Point) (n d : ℕ) (act : steps.Act Maker) (code : List Statement) → GivesMaker p n d act code → GivesTo p n d false act code
region_to p n d act code one = record {
  same = λ m c s rest next fits goes.
      one.same m c s rest next fits (record {
        above = goes.above;
        go = λ m1 c1 r fits1 later1 kept1 temp. goes.go m1 c1 (InRegion r) fits1 later1 kept1 temp;
      });
}

pub unique_to : (p : Point) (n d : ℕ) → GivesTo p n d true (give AsUnique) []
unique_to p n d = record {
  same = λ m c s rest next fits goes. goes.go m c AsUnique fits (later_self (within p) m c.memory) (λ k h. refl) tt;
}

-- the handle comes first; a struct is evaluated to a temporary object, and a word to a temporary
pub made_agrees : (p : Point) (n d own : ℕ) (unique : Bool) (to : steps.Act Maker) (e : Sense) (shape : Shape) (whole_values word_values : List Shape)
    (code whole word : List Statement) (takes_whole takes : Type 0) → AreUnions p.world.unions → AreStructs p.world.unions p.world.structs
    → IsObject p.world.unions p.world.structs shape → p.kept ≤ own
    → TakesMember shape takes_whole takes → AreNumbered p.owned own (values_by shape whole_values word_values) → GivesTo p n d unique to code
    → (takes_whole → AreNumbered p.owned own whole_values → IsWholeAs p n (d + 1) own e shape whole)
    → (takes → AreNumbered p.owned own word_values → Agrees p n (d + 1) e shape word)
    → Agrees p n d (made p.world to (owner_in unique) e) (ThinShape (NeverNull 1) (owner_in unique) shape)
    (code ++ new_code_by p.world unique shape d whole word)
made_agrees p n d own unique to e shape whole_values word_values code whole word takes_whole takes unions structs object less h numbered handle
    structs_as words_as =
    by shape object h numbered structs_as words_as
  where
    -- the handle, and then what is made there
    after : (z : Shape) → IsObject p.world.unions p.world.structs z → e.shape ≡ z
        → MakesAs p n d unique z (made_act p.world e) (new_code_by p.world unique z d whole word)
        → Agrees p n d (made p.world to (owner_in unique) e) (ThinShape (NeverNull 1) (owner_in unique) z) (code ++ new_code_by p.world unique z d whole word)
    after z o shape_is makes = record {
      shape_is = ap (λ x. ThinShape (NeverNull 1) (owner_in unique) x) shape_is;
      taken = object_target p.world.unions p.world.structs z o;
      looks = gives;
      values = gives;
    }
      where
        gives : GivesAs p n d (ThinShape (NeverNull 1) (owner_in unique) z) (to >>= made_act p.world e) (code ++ new_code_by p.world unique z d whole word)
        gives = record {
          same = λ m c s rest next fits goes.
              subst (λ x. SameAt p n (to (λ maker. made_act p.world e maker s) m) (meaning.statements x next c))
              (sym (put_all code (new_code_by p.world unique z d whole word) rest))
              (handle.same m c (λ maker. made_act p.world e maker s) (put (new_code_by p.world unique z d whole word) rest) next fits (record {
                above = over goes.above (omega arith);
                go = λ m1 c1 maker fits1 later1 kept1 ready. makes.same m c m1 c1 maker s rest next fits1 later1 kept1 ready goes;
              }));
        }

    goal : Shape → Type 0
    goal z = Agrees p n d (made p.world to (owner_in unique) e) (ThinShape (NeverNull 1) (owner_in unique) z)
        (code ++ new_code_by p.world unique z d whole word)

    by : (z : Shape) → IsObject p.world.unions p.world.structs z → TakesMember z takes_whole takes
        → AreNumbered p.owned own (values_by z whole_values word_values)
        → (takes_whole → AreNumbered p.owned own whole_values → IsWholeAs p n (d + 1) own e z whole)
        → (takes → AreNumbered p.owned own word_values → Agrees p n (d + 1) e z word) → goal z
    by (StructShape tag) o t nums as_struct as_word =
        let one = as_struct t nums in after (StructShape tag) o one.shape_is (whole_makes p n d own unique (StructShape tag) e whole unions structs o less one)
    by IntShape o t nums as_struct as_word =
        let one = as_word t nums in after IntShape o one.shape_is (value_makes p n d unique IntShape e word unions structs tt one)
    by UnsignedShape o t nums as_struct as_word =
        let one = as_word t nums in after UnsignedShape o one.shape_is (value_makes p n d unique UnsignedShape e word unions structs tt one)
    by CharShape o t nums as_struct as_word =
        let one = as_word t nums in after CharShape o one.shape_is (value_makes p n d unique CharShape e word unions structs tt one)
    by (ThinShape b owner q) o t nums as_struct as_word =
        let one = as_word t nums in after (ThinShape b owner q) o one.shape_is (value_makes p n d unique (ThinShape b owner q) e word unions structs o one)
    by HandleShape o t nums as_struct as_word =
        let one = as_word t nums in after HandleShape o one.shape_is (value_makes p n d unique HandleShape e word unions structs tt one)
    by VoidShape o t nums as_struct as_word = absurd o
    by (FatShape q) o t nums as_struct as_word =
        let one = as_word t nums in after (FatShape q) o one.shape_is (value_makes p n d unique (FatShape q) e word unions structs o one)
    by KeyShape o t nums as_struct as_word =
        let one = as_word t nums in after KeyShape o one.shape_is (value_makes p n d unique KeyShape e word unions structs tt one)
    by (UnionShape tag) o t nums as_struct as_word =
        let one = as_struct t nums in after (UnionShape tag) o one.shape_is (whole_makes p n d own unique (UnionShape tag) e whole unions structs o less one)
    by (ArrayShape count of) o t nums as_struct as_word = absurd o

-- arrays are made in regions alone
abbrev pub IsInOne : Bool → Made → Type 0
IsInOne unique (One value) = Unit {0}
IsInOne unique (Array index count element) = (unique ≡ false)

pub shared_in_one : (new : Made) → IsInOne false new
shared_in_one (One value) = tt
shared_in_one (Array index count element) = refl

pub in_one_none : (unique : Bool) (new : Made) → IsInOne (in_one unique new) new
in_one_none unique (One value) = tt
in_one_none unique (Array index count element) = refl

pub in_one_unique : (unique : Bool) (new : Made) → in_one unique new ≡ true → unique ≡ true
in_one_unique unique (One value) e = e
in_one_unique unique (Array index count element) e = absurd (false≢true e)

-- a region's handle is in a temporary
pub to_region : (p : Point) (n d : ℕ) (act : steps.Act Maker) (code : List Statement) → GivesTo p n d false act code → GivesMaker p n d act code
to_region p n d act code one = record {
  same = λ m c s rest next fits goes.
      one.same m c s rest next fits (record {
        above = goes.above;
        go = λ m1 c1 to fits1 later1 kept1 ready.
            by m c s rest next goes m1 c1 to fits1 later1 kept1 ready;
      });
}
  where
    by : (m : source.Memory) (c : Config) (s : Maker → source.Memory → steps.Step) (rest : Statements) (next : Next)
        → MakerGoesOn p n d m c s (meaning.statements rest next) → (m1 : source.Memory) (c1 : Config) (to : Maker) → SameState p m1 c1 → GrownAt p m c m1 c1
        → AreKept d c c1 → IsMaker false to d c1 → SameAt p n (s to m1) (meaning.statements rest next c1)
    by m c s rest next goes m1 c1 (InRegion r) fits1 later1 kept1 ready = goes.go m1 c1 r fits1 later1 kept1 ready
    by m c s rest next goes m1 c1 AsUnique fits1 later1 kept1 ready = absurd ready

-- what stands for the handle says where
pub maker_to : (p : Point) (n d : ℕ) (unique one : Bool) (handle : Sense) (shape : Shape) (code : List Statement) → (one ≡ true → unique ≡ true)
    → (unique ≡ true → code ≡ []) → Agrees p n d handle shape code → GivesTo p n d one (maker_in one handle) code
maker_to p n d unique true handle shape code alone none agrees = subst (λ z. GivesTo p n d true (give AsUnique) z) (sym (none (alone refl))) (unique_to p n d)
maker_to p n d unique false handle shape code alone none agrees = region_to p n d (handle_maker handle) code (handle_gives p n d handle shape code agrees)

-- A struct is made of all its members.
use Rattle.std.proofs.Common.{◌≡◌, ℕ, suc, ◌+◌, ◌≤◌, List, [], ◌∷◌, ◌++◌, length, Some, refl, sym, ◌∙◌, subst, arith}
use Rattle.std.specs.Prelude.{slice_get}
use Rattle.source_meaning.specs.Shapes.{Shape, StructShape, Part, part_shapes, parts_of}
use Rattle.source_meaning.specs.Sizes.{Extent, rounded_up, all_cells, laid_out}
use Rattle.source_meaning.specs.Placing.{all_placed}
use Rattle.source_meaning.specs.Memory as source
use Rattle.source_meaning.specs.Memory.{Scalar}
use Rattle.source_meaning.specs.Steps as steps
use Rattle.source_meaning.specs.Steps.{World, give, ◌>>=◌}
use Rattle.source_meaning.specs.Conversions.{cells_of}
use Rattle.source_meaning.specs.Places.{Sense}
use Rattle.source_meaning.specs.Calls.{converted_all, flat, struct_made}
use Rattle.core_meaning.specs.Memory as core
use Rattle.core_meaning.specs.Memory.{Pointer}
use Rattle.core_meaning.specs.Core.{Statement, Do, OwnAddress, Statements}
use Rattle.core_meaning.specs.Steps as core_steps
use Rattle.core_meaning.specs.Steps.{Config, with_temp}
use Rattle.core_meaning.specs.Meaning as meaning
use Rattle.core_meaning.proofs.Wholes.{beyond_none, beyond_both}
use Rattle.source_lowering.specs.Layouts.{padded, placed_of, extent_of}
use Rattle.source_lowering.specs.Lowered.{put}
use Rattle.source_lowering.specs.Lowerable.{IsObject, AreStructs}
use Rattle.source_lowering.specs.Simulation.{AreMade, Grown, Point, SameState, SameAt, Next, AreKept, before_value}
use Rattle.source_lowering.proofs.memory.Keeping.{made_later, later_self, later_on}
use Rattle.source_lowering.proofs.Runs.{put_all}
use Rattle.source_lowering.proofs.Structs.{IsMade, struct_made as struct_is_made}
use Rattle.source_lowering.proofs.memory.StructCells.{AllHaveCells}
use Rattle.source_lowering.proofs.memory.Members.{parts_made}
use Rattle.source_lowering.proofs.values.Values.{put_temp, kept_temp, temp_fits, over}
use Rattle.source_lowering.proofs.memory.Copying.{AllShown, all_shown_kept}
use Rattle.source_lowering.proofs.expressions.Wholes.{own_spot, IsWhole, value_made}
use Rattle.source_lowering.proofs.expressions.MakingMembers.{member_spot, AreBefore, MemberGoes}

all_shown_both : (w : World) (m : source.Memory) (c : core.Memory) (t : core.Spot) (xs ys : List Shape) (vs us : List Scalar) → AllShown w m c t xs vs
    → AllShown w m c (core.beyond t (length xs)) ys us → AllShown w m c t (xs ++ ys) (vs ++ us)
all_shown_both w m c t [] ys [] us h g = subst (λ z. AllShown w m c z ys us) (sym (beyond_none t)) g
all_shown_both w m c t [] ys (v ∷ vs) us h g = absurd h
all_shown_both w m c t (x ∷ xs) ys [] us h g = absurd h
all_shown_both w m c t (x ∷ xs) ys (v ∷ vs) us h g = (
  h.0,
  all_shown_both w m c (core.beyond t 1) xs ys vs us h.1
      (subst (λ z. AllShown w m c z ys us) (sym (beyond_both t 1 (length xs) (suc (length xs)) (omega arith))) g),
)

-- ---- forms

-- members from one on have their values
pub record MembersGoOn (p : Point) (n d value cells : ℕ) (m0 : source.Memory) (c0 : Config) (xs : List Shape)
    (s : List (List Scalar) → source.Memory → steps.Step) (k : Config → core_steps.Step) : Type 0 where
  pub above : p.regions.all ≤ d
  pub go : (m : source.Memory) (c : Config) (vss : List (List Scalar)) → SameState p m c → Grown (before_value p value) m0 c0.memory m c.memory
      → AreBefore p value cells c0 c → AreKept (d + 1) c0 c
      → AllShown p.world m c.memory (member_spot p.own value cells) xs (flat vss) → SameAt p n (s vss m) (k c)

-- an act gives the values of members, of a struct of so many bytes, and its code puts them there
pub record MembersGo (p : Point) (n d value cells total bytes : ℕ) (ps : List Part) (act : steps.Act (List (List Scalar))) (code : List Statement)
    : Type 0 where
  pub same : (m : source.Memory) (c : Config) (s : List (List Scalar) → source.Memory → steps.Step) (rest : Statements) (next : Next) → SameState p m c
      → c.temps d ≡ Pointer (own_spot p.own value 0) 0
      → AreMade c.memory (member_spot p.own value cells) 0 (padded p.world.unions (extent_of p.world) total
      (all_placed (placed_of p.world) (extent_of p.world) bytes ps))
      → MembersGoOn p n d value cells m c (all_cells (cells_of p.world) ps) s (meaning.statements rest next)
      → SameAt p n (act s m) (meaning.statements (put code rest) next c)

pub no_members : (p : Point) (n d value cells total bytes : ℕ) → MembersGo p n d value cells total bytes [] (give []) []
no_members p n d value cells total bytes = record {
  same = λ m c s rest next fits temp made goes. goes.go m c [] fits (later_self (before_value p value) m c.memory) (λ i j h. refl) (λ k h. refl) tt;
}

pub more_members : (p : Point) (n d value cells total : ℕ) (so_far : Extent) (part : Part) (ps : List Part) (act : steps.Act (List Scalar))
    (acts : steps.Act (List (List Scalar))) (code codes : List Statement) → AllHaveCells p.world.unions p.world.structs (part ∷ ps)
    → (laid_out (extent_of p.world) so_far (part ∷ ps)).size ≤ total
    → MemberGoes p n d value cells (rounded_up so_far.size (extent_of p.world part.shape).align) part.shape act code
    → MembersGo p n d value (cells + length (cells_of p.world part.shape)) total
    (rounded_up so_far.size (extent_of p.world part.shape).align + (extent_of p.world part.shape).size) ps acts codes
    → MembersGo p n d value cells total so_far.size (part ∷ ps) (act >>= λ vs. acts >>= λ vss. give (vs ∷ vss)) (code ++ codes)
more_members p n d value cells total so_far part ps act acts code codes have room one more = record {
  same = λ m c s rest next fits temp made goes.
      let both = parts_made c.memory p.world.unions p.world.structs total so_far part ps (member_spot p.own value cells) 0 have room made in
      subst (λ z. SameAt p n (act (λ vs. acts (λ vss. s (vs ∷ vss))) m) (meaning.statements z next c)) (sym (put_all code codes rest))
      (one.same m c (λ vs. acts (λ vss. s (vs ∷ vss))) (put codes rest) next fits temp both.0 (record {
        above = over goes.above (omega arith);
        go = λ m1 c1 vs fits1 later1 before1 kept1 shown1.
            more.same m1 c1 (λ vss. s (vs ∷ vss)) rest next fits1 (kept1 d (omega arith) ∙ temp)
            (subst (λ z. AreMade c1.memory z 0 (padded p.world.unions (extent_of p.world) total
            (all_placed (placed_of p.world) (extent_of p.world) next_bytes ps)))
            (beyond_both (own_spot p.own value 0) cells count (cells + count) refl)
            (made_later (before_value p value) m m1 c.memory c1.memory (core.beyond (member_spot p.own value cells) count) 0
            (padded p.world.unions (extent_of p.world) total (all_placed (placed_of p.world) (extent_of p.world) next_bytes ps)) later1 both.1)) (record {
              above = over goes.above (omega arith);
              go = λ m2 c2 vss fits2 later2 before2 kept2 shown2.
                  goes.go m2 c2 (vs ∷ vss) fits2 (later_on (before_value p value) m m1 m2 c.memory c1.memory c2.memory later1 later2)
                  (λ i j less. before2 i j (omega (arith, less)) ∙ before1 i j less) (λ k h. kept2 k h ∙ kept1 k h)
                  (all_shown_both p.world m2 c2.memory (member_spot p.own value cells) (cells_of p.world part.shape) (all_cells (cells_of p.world) ps) vs
                  (flat vss)
                  (all_shown_kept (before_value p value) p.world m1 m2 c1.memory c2.memory (member_spot p.own value cells) (cells_of p.world part.shape) vs
                  later2 (λ i j less.
                  subst (λ z. c2.memory.parts z j ≡ c1.memory.parts z j) (sym (beyond_both (own_spot p.own value 0) cells i (cells + i) refl))
                  (before2 (cells + i) j (omega (arith, less)))) shown1)
                  (subst (λ z. AllShown p.world m2 c2.memory z (all_cells (cells_of p.world) ps) (flat vss))
                  (sym (beyond_both (own_spot p.own value 0) cells count (cells + count) refl)) shown2));
            });
      }));
}
  where
    count : ℕ
    count = length (cells_of p.world part.shape)

    next_bytes : ℕ
    next_bytes = rounded_up so_far.size (extent_of p.world part.shape).align + (extent_of p.world part.shape).size

-- the whole struct
pub made_whole : (p : Point) (n d value : ℕ) (tag : List ℕ) (es : List Sense) (codes : List Statement) → AreStructs p.world.unions p.world.structs
    → IsObject p.world.unions p.world.structs (StructShape tag) → slice_get p.owned value ≡ Some (StructShape tag)
    → MembersGo p n d value 0 (extent_of p.world (StructShape tag)).size 0 (parts_of p.world.structs tag)
    (converted_all p.world (part_shapes (parts_of p.world.structs tag)) es) codes
    → IsWhole p n d value (struct_made p.world tag es) (Do (OwnAddress d value) ∷ codes)
made_whole p n d value tag es codes structs object numbered members = record {
  shape = StructShape tag;
  shape_is = refl;
  object = object;
  numbered = numbered;
  same = λ m c s rest next fits goes.
      let c1 : Config = with_temp d (Pointer (own_spot p.own value 0) 0) c in
      let fits1 = temp_fits p m c d (Pointer (own_spot p.own value 0) 0) fits goes.above in
      subst (λ z. SameAt p n (converted_all p.world (part_shapes parts) es (λ vss. s (flat vss)) m)
      (meaning.statements (put codes rest) next (with_temp d (Pointer (own_spot z value 0) 0) c))) (sym fits.own)
      (members.same m c1 (λ vss. s (flat vss)) rest next fits1 (put_temp d (Pointer (own_spot p.own value 0) 0) c)
      (subst (λ z. AreMade c.memory z 0 (padded p.world.unions (extent_of p.world) (extent_of p.world (StructShape tag)).size
      (all_placed (placed_of p.world) (extent_of p.world) 0 parts))) (beyond_none (own_spot p.own value 0))
      (subst (λ z. AreMade c.memory (own_spot p.own value 0) 0
      (padded p.world.unions (extent_of p.world) (extent_of p.world (StructShape tag)).size z)) made.placed
      (value_made p m c value (StructShape tag) object fits numbered))) (record {
        above = over goes.above (omega arith);
        go = λ m2 c2 vss fits2 later2 before2 kept2 shown2.
            goes.go m2 c2 (flat vss) fits2 later2
            (λ k h. kept2 k (omega (arith, h)) ∙ kept_temp d d (Pointer (own_spot p.own value 0) 0) c c (omega arith) (λ j g. refl) k h)
            (kept2 d (omega arith) ∙ put_temp d (Pointer (own_spot p.own value 0) 0) c)
            (subst (λ z. AllShown p.world m2 c2.memory (own_spot p.own value 0) z (flat vss)) (sym made.cells)
            (subst (λ z. AllShown p.world m2 c2.memory z (all_cells (cells_of p.world) parts) (flat vss)) (sym (beyond_none (own_spot p.own value 0)))
            shown2));
      }));
}
  where
    parts : List Part
    parts = parts_of p.world.structs tag

    made : IsMade p.world.unions p.world.structs tag
    made = struct_is_made p.world.unions p.world.structs tag structs

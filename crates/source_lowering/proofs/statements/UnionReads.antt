-- What a union place holds is read: its tag, and the member.
use Rattle.std.proofs.Common.{◌≡◌, ℕ, List, true, Some, sym, ◌∙◌, subst}
use Rattle.std.specs.Prelude.{slice_get}
use Rattle.source_meaning.specs.Shapes.{Shape, UnionShape, parts_of, part_shapes, has_tag}
use Rattle.source_meaning.specs.Memory as source
use Rattle.source_meaning.specs.Memory.{Scalar, Spot, Holds, Tagged, is_live}
use Rattle.source_meaning.specs.Steps.{World}
use Rattle.core_meaning.specs.Memory as core
use Rattle.core_meaning.specs.Memory.{Content, Pointer, Word}
use Rattle.core_meaning.specs.Core.{Statements}
use Rattle.core_meaning.specs.Steps.{Config, with_temp}
use Rattle.core_meaning.specs.Meaning as meaning
use Rattle.source_lowering.specs.Layouts.{has_fat, pieces_of}
use Rattle.source_lowering.specs.Members.{put, tag_load, held_loads}
use Rattle.source_lowering.specs.Lowerable.{AreUnions, IsValueShape}
use Rattle.source_lowering.specs.Simulation.{at, SameMemory, Leads, Shown, ShownMember, Next, contents_in}
use Rattle.source_lowering.proofs.UnionSizes.{union_of}
use Rattle.source_lowering.proofs.memory.CellParts.{FitPieces}
use Rattle.source_lowering.proofs.memory.Loading.{with_contents, contents_are}
use Rattle.source_lowering.proofs.memory.Members.{words_behind}
use Rattle.source_lowering.proofs.memory.UnionCells.{UnionHeld, union_held, member_shown}
use Rattle.source_lowering.proofs.memory.UnionCode.{tag_loads, held_does}
use Rattle.source_lowering.proofs.memory.ValueCells.{cell_of}
use Rattle.source_lowering.proofs.expressions.UnionMembers.{value_at}

-- a place of a union, to which a pointer leads, holds a member
pub record HoldsMember (w : World) (m : source.Memory) (c : core.Memory) (tag : List ℕ) (number : ℕ) (v : Scalar) (t : Spot) (byte : ℕ) : Type 0 where
  pub known : has_tag w.unions tag ≡ true
  pub holds : m.cells t ≡ Some (record { shape = UnionShape tag; content = Holds (Tagged number v) })
  pub live : is_live m t.region ≡ true
  pub leads : Leads w m c (UnionShape tag) t byte

live_there : (w : World) (m : source.Memory) (c : Config) (tag : List ℕ) (number : ℕ) (v : Scalar) (t : Spot) (byte : ℕ) → SameMemory w m c.memory
    → HoldsMember w m c.memory tag number v t byte → core.is_live (c.memory.standing (at t).region) ≡ true
live_there w m c tag number v t byte agree held = sym (agree.live t.region) ∙ held.live

pub tag_read : (w : World) (m : source.Memory) (c : Config) (tag : List ℕ) (number : ℕ) (v : Scalar) (t : Spot) (byte to d : ℕ)
    (rest : Statements) (next : Next)
    → AreUnions w.unions → SameMemory w m c.memory → HoldsMember w m c.memory tag number v t byte → c.temps d ≡ Pointer (at t) byte
    → meaning.statements (put (tag_load to d) rest) next c ≡ meaning.statements rest next (with_temp to (Word number) c)
tag_read w m c tag number v t byte to d rest next unions agree held pointer =
    let has = union_held w m c.memory tag t byte number v agree held.leads.1 held.holds in
    tag_loads c to d byte (at t) (words_behind (has_fat (parts_of w.unions tag))) number has.words rest next pointer
    (live_there w m c tag number v t byte agree held) has.parts

pub record MemberRead (w : World) (m : source.Memory) (c : Config) (s : Shape) (v : Scalar) (d : ℕ) (rest : Statements) (next : Next) : Type 0 where
  pub contents : List Content
  pub shown : Shown w m c.memory s v contents
  pub are : contents_in d s (with_contents d contents c).temps ≡ contents
  pub done : meaning.statements (put (held_loads s d) rest) next c ≡ meaning.statements rest next (with_contents d contents c)

pub member_read : (w : World) (m : source.Memory) (c : Config) (tag : List ℕ) (number : ℕ) (v : Scalar) (t : Spot) (byte d : ℕ) (s : Shape) (rest : Statements)
    (next : Next) → AreUnions w.unions → SameMemory w m c.memory → HoldsMember w m c.memory tag number v t byte → c.temps d ≡ Pointer (at t) byte
    → slice_get (part_shapes (parts_of w.unions tag)) number ≡ Some s → MemberRead w m c s v d rest next
member_read w m c tag number v t byte d s rest next unions agree held pointer is = record {
  contents = has.words;
  shown = shown;
  are = contents_are s is_value d has.words c fit;
  done =
      held_does s is_value c d byte (at t) (has_fat (parts_of w.unions tag)) (Word number) has.words rest next pointer
      (live_there w m c tag number v t byte agree held) has.parts fit;
}
  where
    has : UnionHeld w m c.memory tag (at t) byte number v
    has = union_held w m c.memory tag t byte number v agree held.leads.1 held.holds

    same : has.shape ≡ s
    same = cc (has.known, is)

    shown : Shown w m c.memory s v has.words
    shown = member_shown w m c.memory s v has.words (subst (λ z. ShownMember w m c.memory z v has.words) same has.shown)

    is_value : IsValueShape s
    is_value = value_at (part_shapes (parts_of w.unions tag)) number s (union_of w.unions tag unions held.known).members is

    fit : FitPieces (pieces_of s) has.words
    fit = (cell_of w s is_value).fit m c.memory v has.words shown

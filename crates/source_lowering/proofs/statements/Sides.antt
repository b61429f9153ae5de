-- The sides of an exchange: how each is reached, and how its value is read and written there.
use Rattle.std.proofs.Common.{◌≡◌, ℕ, ◌+◌, ◌<◌, ◌≤◌, ⊎_elim, List, [], ◌∷◌, Some, true, refl, sym, ap, ap₂, ◌∙◌, subst, arith}
use Rattle.std.specs.Prelude.{slice_get}
use Rattle.cyc_tree.specs.Tree.{Expression}
use Rattle.source_meaning.specs.Shapes.{Shape, FatShape, StructShape, UnionShape, ArrayShape}
use Rattle.source_meaning.specs.Memory as source
use Rattle.source_meaning.specs.Memory.{Spot}
use Rattle.source_meaning.specs.Steps as steps
use Rattle.source_meaning.specs.Steps.{Scope, Variable, World, give}
use Rattle.source_meaning.specs.Places.{bound_to, entity_sense, or_else}
use Rattle.source_meaning.specs.Expressions.{sense}
use Rattle.core_meaning.specs.Memory as core
use Rattle.core_meaning.specs.Memory.{Content, Pointer}
use Rattle.core_meaning.specs.Core.{Do, Get, Move, Put, Statement, Statements}
use Rattle.core_meaning.specs.Steps as core_steps
use Rattle.core_meaning.specs.Steps.{Config, with_memory, with_temp}
use Rattle.core_meaning.specs.Meaning as meaning
use Rattle.core_meaning.specs.Operations.{fitting}
use Rattle.core_meaning.proofs.Wholes.{beyond_none}
use Rattle.source_lowering.specs.Layouts.{first_part, piece, pieces_of}
use Rattle.source_lowering.specs.Members.{loads_code, stores_code, valued}
use Rattle.source_lowering.specs.Lowered.{Named, entity_shape, expression_values, local_named, put, shape_by, static_shape, width_of}
use Rattle.source_lowering.specs.Lowerable.{IsValueShape, IsVariable, IsWordShape}
use Rattle.source_lowering.specs.Programs.{ByName, ByPlace, Side, local_side, named_side, side_code, side_of, side_read, side_written}
use Rattle.source_lowering.specs.Simulation.{at, region_at, AreKept, AreLocals, GrownAt, Leads, Next, Point, SameAt, SameState, contents_in, within}
use Rattle.source_lowering.proofs.memory.Keeping.{later_self}
use Rattle.source_lowering.proofs.memory.CellParts.{FitPieces, PartsAre, part_of, with_values}
use Rattle.source_lowering.proofs.memory.Loading.{contents_are, loads_does, other_contents, stores_does, with_contents}
use Rattle.source_lowering.proofs.memory.Members.{word_pieces}
use Rattle.source_lowering.proofs.values.Integers.{one_content, one_word}
use Rattle.source_lowering.proofs.values.Values.{other_temp, put_temp}
use Rattle.source_lowering.proofs.expressions.Making.{local_spot}
use Rattle.source_lowering.proofs.expressions.Names.{AreObjectNames, FoundLocal, MissingLocal, find_local}
use Rattle.source_lowering.proofs.expressions.Places.{LocalVariable, PlacedAs}
use Rattle.source_lowering.proofs.expressions.Variables.{got, placed}
use Rattle.source_lowering.proofs.expressions.VariableForms.{LocalLed}
use Rattle.source_lowering.proofs.expressions.EachExpression.{IsKnown, Known, place_in}

-- ---- how code reaches a place

-- a local of one word is at the place
pub record IsLocalAt (p : Point) (out index width : ℕ) (shape : Shape) (t : Spot) (byte : ℕ) : Type 0 where
  pub frame : ℕ
  pub in_block : slice_get (p.frame ∷ p.outer) out ≡ Some frame
  pub spot : t ≡ local_spot frame index
  pub first : byte ≡ 0
  pub word : IsWordShape shape
  pub wide : width ≡ width_of shape

-- by the name of such a local, or by a pointer in a temporary
abbrev pub IsReached : Point → Side → Shape → (temps : ℕ → Content) → (pointer : ℕ) → Spot → (byte : ℕ) → Type 0
IsReached p (ByName out index width) shape temps q t byte = IsLocalAt p out index width shape t byte
IsReached p ByPlace shape temps q t byte = (temps q ≡ Pointer (at t) byte)

pub reached_still : (p : Point) (side : Side) (shape : Shape) (temps later : ℕ → Content) (q : ℕ) (t : Spot) (byte : ℕ) → later q ≡ temps q
    → IsReached p side shape temps q t byte → IsReached p side shape later q t byte
reached_still p (ByName out index width) shape temps later q t byte same h = h
reached_still p ByPlace shape temps later q t byte same h = same ∙ h

-- a union is no word
pub union_pointed : (p : Point) (side : Side) (tag : List ℕ) (temps : ℕ → Content) (q : ℕ) (t : Spot) (byte : ℕ)
    → IsReached p side (UnionShape tag) temps q t byte → temps q ≡ Pointer (at t) byte
union_pointed p (ByName out index width) tag temps q t byte h = absurd h.word
union_pointed p ByPlace tag temps q t byte h = h

-- what is reached by name has no temporary objects
pub name_values : (w : World) (names : List Named) (e : Expression) (out index width : ℕ) → side_of names e ≡ ByName out index width
    → expression_values w names e ≡ []
name_values w names (Expression.Variable name) out index width is = refl
name_values w names (Expression.Grouped at inner) out index width is = name_values w names inner out index width is
name_values w names _ out index width is = absurd cc is

-- ---- a value is read

-- it is in the temporaries from one on, and those below stay
pub record SideRead (c : Config) (code : List Statement) (d : ℕ) (shape : Shape) (xs : List Content) : Type 0 where
  pub temps : ℕ → Content
  pub does : (rest : Statements) (next : Next) → meaning.statements (put code rest) next c ≡ meaning.statements rest next (record c { temps = temps })
  pub kept : (k : ℕ) → k < d → temps k ≡ c.temps k
  pub are : contents_in d shape temps ≡ xs

-- where a pointer leads, which stays
pointed_read : (s : Shape) → IsValueShape s → (c : Config) (d q byte : ℕ) (spot : core.Spot) (xs : List Content) → c.temps q ≡ Pointer spot byte
    → core.is_live (c.memory.standing spot.region) ≡ true → PartsAre c.memory spot byte 0 (pieces_of s) xs → FitPieces (pieces_of s) xs
    → SideRead c (Do (Move d q) ∷ loads_code s d 0 0) d s xs
pointed_read s h c d q byte spot xs temp live parts fit =
    let none : byte ≡ byte + 0 = omega arith in
    let moved : Config = with_temp d (c.temps q) c in
    record {
      temps = (with_contents d xs moved).temps;
      does = λ rest next. loads_does s h moved d 0 0 byte spot xs rest next (put_temp d (c.temps q) c ∙ temp) live
          (subst (λ z. PartsAre c.memory z (byte + 0) 0 (pieces_of s) xs) (beyond_none spot)
          (subst (λ z. PartsAre c.memory spot z 0 (pieces_of s) xs) none parts));
      kept = λ k less. other_contents d k xs moved less ∙ other_temp d k (c.temps q) c less;
      are = contents_are s h d xs moved fit;
    }

-- the one part of a word
word_part : (c : core.Memory) (frame index width byte : ℕ) (t : Spot) (first x : Content) (shape : Shape) → t ≡ local_spot frame index → byte ≡ 0
    → width ≡ width_of shape → c.parts (at t) 0 ≡ Some (part_of byte (piece 0 (width_of shape) first) x)
    → c.parts (at (local_spot frame index)) 0 ≡ Some (record { offset = 0; width = width; content = x })
word_part c frame index width byte t first x shape spot none wide part =
    ap (λ z. c.parts (at z) 0) (sym spot) ∙ part ∙
    ap₂ (λ b w. Some (part_of b (piece 0 w first) x)) none (sym wide)

local_live : (c : core.Memory) (frame index : ℕ) (t : Spot) → t ≡ local_spot frame index → core.is_live (c.standing (region_at t.region)) ≡ true
    → core.is_live (c.standing (core.Frame frame)) ≡ true
local_live c frame index t spot live = subst (λ z. core.is_live (c.standing (region_at z.region)) ≡ true) spot live

local_read : (p : Point) (out index width : ℕ) (s : Shape) (c : Config) (d byte : ℕ) (t : Spot) (xs : List Content) → c.blocks ≡ p.frame ∷ p.outer
    → IsLocalAt p out index width s t byte → core.is_live (c.memory.standing (region_at t.region)) ≡ true
    → PartsAre c.memory (at t) byte 0 (piece 0 (width_of s) (first_part s) ∷ []) xs → SideRead c (Do (Get d out index width) ∷ []) d s xs
local_read p out index width s c d byte t [] blocks h live parts = absurd parts
local_read p out index width s c d byte t (x ∷ y ∷ ys) blocks h live parts = absurd parts.1
local_read p out index width s c d byte t (x ∷ []) blocks h live parts = record {
  temps = (with_temp d x c).temps;
  does = λ rest next. got c d out index width h.frame x (meaning.statements rest next) (ap (λ z. slice_get z out) blocks ∙ h.in_block)
      (local_live c.memory h.frame index t h.spot live)
      (word_part c.memory h.frame index width byte t (first_part s) x s h.spot h.first h.wide parts.0);
  kept = λ k less. other_temp d k x c less;
  are = one_content s (one_word s h.word) d (with_temp d x c).temps ∙ ap (λ z. z ∷ []) (put_temp d x c);
}

pub side_is_read : (p : Point) (side : Side) (s : Shape) → IsValueShape s → (c : Config) (d q byte : ℕ) (t : Spot) (xs : List Content)
    → c.blocks ≡ p.frame ∷ p.outer → IsReached p side s c.temps q t byte → core.is_live (c.memory.standing (region_at t.region)) ≡ true
    → PartsAre c.memory (at t) byte 0 (pieces_of s) xs → FitPieces (pieces_of s) xs → SideRead c (side_read side s q d) d s xs
side_is_read p ByPlace s is_value c d q byte t xs blocks h live parts fit = pointed_read s is_value c d q byte (at t) xs h live parts fit
side_is_read p (ByName out index width) s is_value c d q byte t xs blocks h live parts fit =
    local_read p out index width s c d byte t xs blocks h live (subst (λ z. PartsAre c.memory (at t) byte 0 z xs) (word_pieces s h.word) parts)

-- ---- a value is written

pointed_written : (s : Shape) → IsValueShape s → (c : Config) (q d byte : ℕ) (spot : core.Spot) (olds : List Content) (rest : Statements) (next : Next)
    → c.temps q ≡ Pointer spot byte → core.is_live (c.memory.standing spot.region) ≡ true → PartsAre c.memory spot byte 0 (pieces_of s) olds
    → FitPieces (pieces_of s) (contents_in d s c.temps) → meaning.statements (put (stores_code s q d 0 0) rest) next c
    ≡ meaning.statements rest next (with_memory (with_values c.memory spot byte (pieces_of s) (contents_in d s c.temps)) c)
pointed_written s h c q d byte spot olds rest next temp live parts fit =
    let none : byte ≡ byte + 0 = omega arith in
    stores_does s h c q d 0 0 byte spot olds rest next temp live
    (subst (λ z. PartsAre c.memory z (byte + 0) 0 (pieces_of s) olds) (beyond_none spot)
    (subst (λ z. PartsAre c.memory spot z 0 (pieces_of s) olds) none parts)) fit ∙
    ap₂ (λ z b. meaning.statements rest next (with_memory (with_values c.memory z b (pieces_of s) (contents_in d s c.temps)) c)) (sym (beyond_none spot))
    (sym none)

-- one part, where it was one
local_written : (p : Point) (out index width : ℕ) (s : Shape) (first : Content) (c : Config) (d byte : ℕ) (t : Spot) (olds : List Content) (rest : Statements)
    (next : Next) → c.blocks ≡ p.frame ∷ p.outer → IsLocalAt p out index width s t byte → core.is_live (c.memory.standing (region_at t.region)) ≡ true
    → PartsAre c.memory (at t) byte 0 (piece 0 (width_of s) first ∷ []) olds → FitPieces (piece 0 (width_of s) first ∷ []) (c.temps d ∷ [])
    → meaning.statements (put (Do (Put out index width d) ∷ []) rest) next c
    ≡ meaning.statements rest next (with_memory (with_values c.memory (at t) byte (piece 0 (width_of s) first ∷ []) (c.temps d ∷ [])) c)
local_written p out index width s first c d byte t [] rest next blocks h live parts fit = absurd parts
local_written p out index width s first c d byte t (x ∷ y ∷ ys) rest next blocks h live parts fit = absurd parts.1
local_written p out index width s first c d byte t (old ∷ []) rest next blocks h live parts fit =
    placed c d out index width h.frame old (meaning.statements rest next) (ap (λ z. slice_get z out) blocks ∙ h.in_block)
    (local_live c.memory h.frame index t h.spot live) (word_part c.memory h.frame index width byte t first old s h.spot h.first h.wide parts.0) ∙
    ap (λ x. ends (local_spot h.frame index) 0 width x) (ap (λ w. fitting w (c.temps d)) h.wide ∙ fit.0) ∙
    (ap (λ z. ends z 0 width (c.temps d)) (sym h.spot) ∙ ap₂ (λ b w. ends t b w (c.temps d)) (sym h.first) h.wide)
  where
    -- the end where a part of so many bytes is written at a place
    ends : Spot → (byte width : ℕ) → Content → core_steps.Step
    ends u b w x = meaning.statements rest next (with_memory (with_values c.memory (at u) b (piece 0 w first ∷ []) (x ∷ [])) c)

pub side_is_written : (p : Point) (side : Side) (s : Shape) → IsValueShape s → (c : Config) (q d byte : ℕ) (t : Spot) (olds : List Content)
    (rest : Statements) (next : Next) → c.blocks ≡ p.frame ∷ p.outer → IsReached p side s c.temps q t byte
    → core.is_live (c.memory.standing (region_at t.region)) ≡ true → PartsAre c.memory (at t) byte 0 (pieces_of s) olds
    → FitPieces (pieces_of s) (contents_in d s c.temps) → meaning.statements (put (side_written side s q d) rest) next c
    ≡ meaning.statements rest next (with_memory (with_values c.memory (at t) byte (pieces_of s) (contents_in d s c.temps)) c)
side_is_written p ByPlace s is_value c q d byte t olds rest next blocks h live parts fit =
    pointed_written s is_value c q d byte (at t) olds rest next h live parts fit
side_is_written p (ByName out index width) s is_value c q d byte t olds rest next blocks h live parts fit =
    let pieces : pieces_of s ≡ piece 0 (width_of s) (first_part s) ∷ [] = word_pieces s h.word in
    let alone : contents_in d s c.temps ≡ c.temps d ∷ [] = one_content s (one_word s h.word) d c.temps in
    local_written p out index width s (first_part s) c d byte t olds rest next blocks h live (subst (λ z. PartsAre c.memory (at t) byte 0 z olds) pieces parts)
    (subst (λ z. FitPieces z (c.temps d ∷ [])) pieces (subst (λ z. FitPieces (pieces_of s) z) alone fit)) ∙
    ap₂ (λ qs xs. meaning.statements rest next (with_memory (with_values c.memory (at t) byte qs xs) c)) (sym pieces) (sym alone)

-- ---- a side's place is known

-- what comes behind it: code reaches it then
pub record SideGoesOn (p : Point) (n d : ℕ) (side : Side) (m0 : source.Memory) (c0 : Config) (shape : Shape) (s : Spot → source.Memory → steps.Step)
    (k : Config → core_steps.Step) : Type 0 where
  pub above : p.regions.all ≤ d
  pub go : (m : source.Memory) (c : Config) (t : Spot) (byte : ℕ) → SameState p m c → GrownAt p m0 c0 m c → AreKept d c0 c
      → IsReached p side shape c.temps d t byte → Leads p.world m c.memory shape t byte → SameAt p n (s t m) (k c)

pub record SidedAs (p : Point) (n d : ℕ) (side : Side) (shape : Shape) (act : steps.Act Spot) (pointer : List Statement) : Type 0 where
  pub same : (m : source.Memory) (c : Config) (s : Spot → source.Memory → steps.Step) (rest : Statements) (next : Next) → SameState p m c
      → SideGoesOn p n d side m c shape s (meaning.statements rest next)
      → SameAt p n (act s m) (meaning.statements (put (side_code side pointer) rest) next c)

-- by its pointer
pointed_side : (p : Point) (n d : ℕ) (shape : Shape) (act : steps.Act Spot) (pointer : List Statement) → PlacedAs p n d shape act pointer
    → SidedAs p n d ByPlace shape act pointer
pointed_side p n d shape act pointer is_placed = record {
  same = λ m c s rest next fits goes. is_placed.same m c s rest next fits (record {
    above = goes.above;
    go = λ m1 c1 t byte fits1 later1 kept1 temp1 lies1 leads1. goes.go m1 c1 t byte fits1 later1 kept1 temp1 leads1;
  });
}

-- by its name, for which there is no code
named_word : (p : Point) (n d out index frame : ℕ) (shape : Shape) (pointer : List Statement) → IsWordShape shape
    → slice_get (p.frame ∷ p.outer) out ≡ Some frame → LocalLed p shape frame index
    → SidedAs p n d (ByName out index (width_of shape)) shape (give (local_spot frame index)) pointer
named_word p n d out index frame shape pointer word block led = record {
  same = λ m c s rest next fits goes. goes.go m c (local_spot frame index) 0 fits (later_self (within p) m c.memory) (λ k less. refl)
      (record { frame = frame; in_block = block; spot = refl; first = refl; word = word; wide = refl }) (led m c.memory fits.locals);
}

-- a local of any shape, by its name where it is one word
local_sided : (p : Point) (n d out index frame : ℕ) (shape : Shape) (pointer : List Statement) → IsVariable p.world.unions p.world.structs shape
    → slice_get (p.frame ∷ p.outer) out ≡ Some frame → LocalVariable p shape frame index
    → PlacedAs p n d (valued shape) (entity_sense p.world (Some (Variable shape (local_spot frame index)))).place pointer
    → SidedAs p n d (local_side shape out index) (valued shape) (entity_sense p.world (Some (Variable shape (local_spot frame index)))).place pointer
local_sided p n d out index frame (StructShape tag) pointer h block led is_placed = pointed_side p n d (StructShape tag) _ pointer is_placed
local_sided p n d out index frame (UnionShape tag) pointer h block led is_placed = pointed_side p n d (UnionShape tag) _ pointer is_placed
local_sided p n d out index frame (FatShape to) pointer h block led is_placed = pointed_side p n d (FatShape to) _ pointer is_placed
local_sided p n d out index frame (ArrayShape count of) pointer h block led is_placed = pointed_side p n d (FatShape of) _ pointer is_placed
local_sided p n d out index frame shape pointer h block led is_placed = named_word p n d out index frame shape pointer h block led

named_sided : (p : Point) (n d : ℕ) (name : List ℕ) (pointer : List Statement) → AreLocals (p.frame ∷ p.outer) p.locals p.names
    → AreObjectNames p.world.unions p.world.structs p.names
    → PlacedAs p n d (valued (shape_by (local_named p.names name) (bound_to p.world.globals name)))
    (entity_sense p.world (or_else (bound_to p.locals name) (bound_to p.world.globals name))).place pointer
    → SidedAs p n d (named_side (local_named p.names name)) (valued (shape_by (local_named p.names name) (bound_to p.world.globals name)))
    (entity_sense p.world (or_else (bound_to p.locals name) (bound_to p.world.globals name))).place pointer
named_sided p n d name pointer locals words =
    ⊎_elim here missing (find_local p.world.unions p.world.structs (p.frame ∷ p.outer) p.locals p.names name locals words)
  where
    Sided : Type 0
    Sided =
        PlacedAs p n d (valued (shape_by (local_named p.names name) (bound_to p.world.globals name)))
        (entity_sense p.world (or_else (bound_to p.locals name) (bound_to p.world.globals name))).place pointer
        → SidedAs p n d (named_side (local_named p.names name)) (valued (shape_by (local_named p.names name) (bound_to p.world.globals name)))
        (entity_sense p.world (or_else (bound_to p.locals name) (bound_to p.world.globals name))).place pointer

    here : FoundLocal p.world.unions p.world.structs (p.frame ∷ p.outer) p.locals p.names name → Sided
    here f = rw (f.bound, f.found) (local_sided p n d f.out f.index f.frame f.shape pointer f.is_variable f.in_block (f.led p.world))

    missing : MissingLocal p.locals p.names name → Sided
    missing f = rw (f.bound, f.found) (pointed_side p n d (valued (entity_shape (bound_to p.world.globals name))) _ pointer)

-- each side is reached where a pointer to its place could be had
pub side_same : (e : Expression) (scope : Scope) (k : Known) → IsKnown scope k → (n d : ℕ) (pointer : List Statement)
    → PlacedAs (place_in scope k) n d (static_shape scope.world k.names e) (sense e scope).place pointer
    → SidedAs (place_in scope k) n d (side_of k.names e) (static_shape scope.world k.names e) (sense e scope).place pointer
side_same (Expression.Variable name) scope k known n d pointer is_placed =
    named_sided (place_in scope k) n d name.text pointer known.locals known.words is_placed
side_same (Expression.Grouped at inner) scope k known n d pointer is_placed = side_same inner scope k known n d pointer is_placed
side_same e scope k known n d pointer is_placed =
    pointed_side (place_in scope k) n d (static_shape scope.world k.names e) (sense e scope).place pointer is_placed

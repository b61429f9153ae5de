-- A property of steps that the steps of every act have where what comes after the act has it, provided that calls are of names that the property may have.
-- Here:
-- acts on cells, conversions, operators, calls and made values.
use Rattle.std.proofs.Common.{◌≡◌, ℕ, zero, suc, ◌+◌, Bool, true, false, Option, Some, None, List, [], ◌∷◌, ◌++◌, length, refl, ◌*◌}
use Rattle.std.specs.List.{AllByRecursion}
use Rattle.std.specs.Prelude.{◌%◌, ◌^◌, ◌-◌, nat_le, if◌then◌else◌, not, bytes_eq, codes}
use Rattle.cyc_tree.specs.declared.expression.Operator.{Operator}
use Rattle.cyc_tree.specs.declared.expression.Operator.TheVariants.{Subtract, BitXor}
use Rattle.cyc_tree.specs.declared.expression.Prefix.{Prefix}
use Rattle.cyc_tree.specs.declared.expression.Prefix.TheVariants.{Negate, Not, Complement, Dereference, AddressOf}
use Rattle.cyc_words.specs.declared.faults.Kind.{Kind}
use Rattle.cyc_words.specs.Events.{Event, ByteRead, ByteWritten, SourceEvent, Visible, SourceEnding}
use Rattle.step_trees.specs.Trees.{Calls, Turns, Stops, Says, Reads, Pays}
use Rattle.source_meaning.specs.Shapes.{parts_of, Reach, MayBeNull, NeverNull, bound_in, Owner, Shared, Alone, Shape, IntShape, UnsignedShape, CharShape}
use Rattle.source_meaning.specs.Shapes.{ThinShape, FatShape, ArrayShape, part_shape, part_shapes, pointee, has_tag, same_shape}
use Rattle.source_meaning.specs.Memory.{Region, Frame, Born, Spot, Span, Scalar, IntegerType, AsInt, AsUnsigned, AsChar, Integer, Thin, Wide, HandleOf, Content}
use Rattle.source_meaning.specs.Memory.{Holds, Blank, Gone, Lent, Object, State, Live, Dead, Memory, beyond, any_moved, cell_at, is_live, is_of, with_state}
use Rattle.source_meaning.specs.Steps.{Entity, Variable, Routine, World, LoopTurn, Flow, Step, Act, give, ◌>>=◌, ◌>>◌, stuck, raise, need, check, choose}
use Rattle.source_meaning.specs.Steps.{finally}
use Rattle.source_meaning.specs.Operators.{operated, is_true}
use Rattle.source_meaning.specs.Conversions.{cells_of, element, elements_from, thin_to_thin, fat_to_thin, thin_leads, fat_leads, converted_scalar, converted}
use Rattle.source_meaning.specs.Conversions.{one, integer, accessed}
use Rattle.source_meaning.specs.Values.{value_held, read_cell, read_cells, put_content, write_cell, write_cells, put_contents, take_cells, is_lent}
use Rattle.source_meaning.specs.Making.{Maker, AsUnique, InRegion, maker_of, ask, make_object, set_state}
use Rattle.source_meaning.specs.Places.{Sense, value_sense, place_sense, no_sense, span_at, entity_sense, contents, indexed_span, indexed, member, address_of}
use Rattle.source_meaning.specs.Places.{given_by, assigned}
use Rattle.source_meaning.specs.Calls.{constant, applied, truth, all_true, any_true, tested, inverted, prefixed, elements_left, counted, converted_all, flat}
use Rattle.source_meaning.specs.Calls.{function_of, called, read_byte, write_byte, struct_made, call_sense, union_made, made, index_in, index_made, elements}
use Rattle.source_meaning.specs.Calls.{array_made, handle_maker, made_in}
use Rattle.source_meaning.specs.Regions.{in_region, enter_block, in_block}
use Rattle.source_meaning.specs.Callees.{expression_callees, statement_callees}

-- an event that is no byte
abbrev pub IsSilent : SourceEvent → Type 0
IsSilent (Visible (ByteRead byte)) = ⊥
IsSilent (Visible (ByteWritten byte)) = ⊥
IsSilent _ = Unit {0}

-- A property of steps: which they are that have it, and which names may be called in a program. A run that is over has it. So has a run that goes on by a
-- visible
-- event that is no byte, by a unit, or by a unit and then a byte that is read or written, if what follows has it; and so has a call of a function by a name
-- that
-- may be called, and a turn in which all calls are by such names.
pub record Property : Type 1 where
  pub Has : Step → Type 0
  pub MayCall : World → List ℕ → Type 0
  pub stops : (ending : SourceEnding) → Has (Stops ending)
  pub says : (event : Event) → IsSilent (Visible event) → (s : Step) → Has s → Has (Says (Visible event) s)
  pub pays : (next : Memory → Step) (m : Memory) → Has (next m) → Has (Pays next m)
  pub reads : (next : Memory → Option ℕ → Step) (m : Memory) → ((byte : Option ℕ) → Has (next m byte)) → Has (Pays (λ later. Reads (next later)) m)
  pub writes : (byte : ℕ) (next : Memory → Step) (m : Memory) → Has (next m) → Has (Pays (λ later. Says (Visible (ByteWritten byte)) (next later)) m)
  pub calls : (w : World) (name : List ℕ) (f : Routine) → function_of w.functions name ≡ Some f → MayCall w name → (arguments : List (List Scalar))
      (next : List Scalar → Memory → Step) (m : Memory) → ((vs : List Scalar) (later : Memory) → Has (next vs later))
      → Has (Calls (record { routine = f; world = w; arguments = arguments }) next m)
  pub turns : (turn : LoopTurn) → AllByRecursion (MayCall turn.scope.world) (expression_callees turn.condition ++ statement_callees turn.body)
      → (next : Flow → Memory → Step) (m : Memory) → ((flow : Flow) (later : Memory) → Has (next flow later)) → Has (Turns turn next m)

-- the steps of an act have the property, where what comes after it has
pub record Keeps (P : Property) {A : Type 0} (act : Act A) : Type 0 where
  pub go : (next : A → Memory → Step) (m : Memory) → ((a : A) (later : Memory) → P.Has (next a later)) → P.Has (act next m)

-- an expression's three ways to run
pub record SenseKeeps (P : Property) (e : Sense) : Type 0 where
  pub value : Keeps P e.value
  pub look : Keeps P e.look
  pub place : Keeps P e.place

abbrev pub SensesKeep : Property → List Sense → Type 0
SensesKeep P [] = Unit {0}
SensesKeep P (e ∷ es) = SenseKeeps P e × SensesKeep P es

-- what holds of each of two lists holds of each of their parts
pub both_parts : {X : Type 0} (P : X → Type 0) (xs ys : List X) → AllByRecursion P (xs ++ ys) → AllByRecursion P xs × AllByRecursion P ys
both_parts P [] ys h = (tt, h)
both_parts P (x ∷ xs) ys h = let others = both_parts P xs ys h.1 in ((h.0, others.0), others.1)

module _ (P : Property) where
  -- ---- acts of every kind

  pub give_keeps : {A : Type 0} (a : A) → Keeps P (give a)
  give_keeps a = record { go = λ next m h. h a m }

  pub stuck_keeps : {A : Type 0} → Keeps P (stuck {A = A})
  stuck_keeps = record { go = λ next m h. P.stops _ }

  raise_keeps : {A : Type 0} (kind : Kind) → Keeps P (raise {A = A} kind)
  raise_keeps kind = record { go = λ next m h. P.stops _ }

  pub need_keeps : {A : Type 0} (a : Option A) → Keeps P (need a)
  need_keeps None = stuck_keeps
  need_keeps (Some a) = give_keeps a

  pub check_keeps : (b : Bool) → Keeps P (check b)
  check_keeps true = give_keeps tt
  check_keeps false = stuck_keeps

  pub choose_keeps : {A : Type 0} (b : Bool) (first second : Act A) → Keeps P first → Keeps P second → Keeps P (choose b first second)
  choose_keeps true first second x y = x
  choose_keeps false first second x y = y

  pub if_keeps : {A : Type 0} (b : Bool) (first second : Act A) → Keeps P first → Keeps P second → Keeps P (if b then first else second)
  if_keeps true first second x y = x
  if_keeps false first second x y = y

  -- ---- cells

  held_keeps : (c : Content) → Keeps P (value_held c)
  held_keeps (Holds v) = give_keeps v
  held_keeps Blank = stuck_keeps
  held_keeps Gone = stuck_keeps
  held_keeps (Lent v) = stuck_keeps

  pub read_cell_keeps : (s : Spot) → Keeps P (read_cell s)
  read_cell_keeps s = record { go = λ next m h. (need_keeps (cell_at m s)).go _ m (λ c m1. (held_keeps c.content).go next m1 h) }

  pub read_cells_keeps : (n : ℕ) (s : Spot) → Keeps P (read_cells n s)
  read_cells_keeps zero s = give_keeps []
  read_cells_keeps (suc n) s =
      record { go = λ next m h. (read_cell_keeps s).go _ m (λ v m1. (read_cells_keeps n (beyond s 1)).go _ m1 (λ vs m2. h (v ∷ vs) m2)) }

  pub put_keeps : (s : Spot) (c : Content) → Keeps P (put_content s c)
  put_keeps s c = record { go = λ next m h. (need_keeps (cell_at m s)).go _ m (λ old m1. h tt _) }

  write_cell_keeps : (s : Spot) (v : Scalar) → Keeps P (write_cell s v)
  write_cell_keeps s v = record {
    go = λ next m h. (need_keeps (cell_at m s)).go _ m (λ old m1. (check_keeps (not (is_lent old.content))).go _ m1 (λ a m2. (check_keeps
        (is_of old.shape v)).go _ m2 (λ b m3. (put_keeps s (Holds v)).go next m3 h)));
  }

  pub write_cells_keeps : (s : Spot) (vs : List Scalar) → Keeps P (write_cells s vs)
  write_cells_keeps s [] = give_keeps tt
  write_cells_keeps s (v ∷ vs) = record { go = λ next m h. (write_cell_keeps s v).go _ m (λ a m1. (write_cells_keeps (beyond s 1) vs).go next m1 h) }

  put_all_keeps : (n : ℕ) (s : Spot) (c : Content) → Keeps P (put_contents n s c)
  put_all_keeps zero s c = give_keeps tt
  put_all_keeps (suc n) s c = record { go = λ next m h. (put_keeps s c).go _ m (λ a m1. (put_all_keeps n (beyond s 1) c).go next m1 h) }

  take_keeps : (shapes : List Shape) (s : Spot) → Keeps P (take_cells shapes s)
  take_keeps shapes s = record {
    go = λ next m h. (read_cells_keeps (length shapes) s).go _ m (λ vs m1.
        (if_keeps (any_moved shapes) (put_contents (length shapes) s Gone) (give tt) (put_all_keeps (length shapes) s Gone) (give_keeps tt)).go _ m1
        (λ a m2. h vs m2));
  }

  -- ---- conversions

  element_keeps : (cells : ℕ) (p : Option Span) → Keeps P (element cells p)
  element_keeps cells None = raise_keeps _
  element_keeps cells (Some s) = if_keeps _ _ _ (give_keeps _) (raise_keeps _)

  thin_keeps : (b : Reach) (all : ℕ) (p : Option Spot) → Keeps P (thin_to_thin b all p)
  thin_keeps (MayBeNull count) all None = give_keeps _
  thin_keeps (MayBeNull count) all (Some s) = record { go = λ next m h. (check_keeps (nat_le (count % 2 ^ 32) all)).go _ m (λ u m1. h _ m1) }
  thin_keeps (NeverNull count) all None = raise_keeps _
  thin_keeps (NeverNull count) all (Some s) = record { go = λ next m h. (check_keeps (nat_le (count % 2 ^ 32) all)).go _ m (λ u m1. h _ m1) }

  enough_keeps : (cells count : ℕ) (p : Option Span) → Keeps P (elements_from cells count p)
  enough_keeps cells count None = raise_keeps _
  enough_keeps cells count (Some s) = record {
    go = λ next m h. (element_keeps cells (Some s)).go _ m
        (λ at m1. (if_keeps (nat_le count (s.count - s.index)) _ _ (give_keeps at) (raise_keeps _)).go next m1 h);
  }

  fat_keeps : (b : Reach) (cells : ℕ) (p : Option Span) → Keeps P (fat_to_thin b cells p)
  fat_keeps (MayBeNull count) cells None = give_keeps _
  fat_keeps (MayBeNull count) cells (Some s) = record { go = λ next m h. (enough_keeps cells (count % 2 ^ 32) (Some s)).go _ m (λ at m1. h _ m1) }
  fat_keeps (NeverNull count) cells p = record { go = λ next m h. (enough_keeps cells (count % 2 ^ 32) p).go _ m (λ at m1. h _ m1) }

  same_keeps : {A : Type 0} (s from : Shape) (a : A) → Keeps P (check (same_shape s from) >> give a)
  same_keeps s from a = record { go = λ next m h. (check_keeps (same_shape s from)).go _ m (λ u m1. h a m1) }

  thin_leads_keeps : (owner : Owner) (to from : Shape) (p : Option Spot) → Keeps P (thin_leads owner to from p)
  thin_leads_keeps owner to from None = give_keeps tt
  thin_leads_keeps owner to from (Some s) = check_keeps _

  fat_leads_keeps : (owner : Owner) (to from : Shape) (p : Option Span) → Keeps P (fat_leads owner to from p)
  fat_leads_keeps owner to from None = give_keeps tt
  fat_leads_keeps owner to from (Some s) = check_keeps _

  pub scalar_keeps : (w : World) (s from : Shape) (v : Scalar) → Keeps P (converted_scalar w s from v)
  scalar_keeps w IntShape from (Integer t x) = give_keeps _
  scalar_keeps w UnsignedShape from (Integer t x) = give_keeps _
  scalar_keeps w CharShape from (Integer t x) = give_keeps _
  scalar_keeps w (FatShape to) from (Thin p) = record { go = λ next m h. (thin_leads_keeps Shared to from p).go _ m (λ u m1. h _ m1) }
  scalar_keeps w (FatShape to) from (Wide p) = record { go = λ next m h. (fat_leads_keeps Shared to from p).go _ m (λ u m1. h _ m1) }
  scalar_keeps w (ThinShape bound owner to) from (Thin p) =
      record { go = λ next m h. (thin_leads_keeps owner to from p).go _ m (λ u m1. (thin_keeps bound (bound_in from) p).go next m1 h) }
  scalar_keeps w (ThinShape bound owner to) from (Wide p) =
      record { go = λ next m h. (fat_leads_keeps owner to from p).go _ m (λ u m1. (fat_keeps bound (length (cells_of w to)) p).go next m1 h) }
  scalar_keeps w IntShape from v = same_keeps IntShape from v
  scalar_keeps w UnsignedShape from v = same_keeps UnsignedShape from v
  scalar_keeps w s from v = same_keeps s from v

  pub converted_keeps : (w : World) (s from : Shape) (vs : List Scalar) → Keeps P (converted w s from vs)
  converted_keeps w s from [] = same_keeps s from _
  converted_keeps w s from (v ∷ []) = record { go = λ next m h. (scalar_keeps w s from v).go _ m (λ c m1. h _ m1) }
  converted_keeps w s from (v ∷ u ∷ vs) = same_keeps s from _

  pub one_keeps : (vs : List Scalar) → Keeps P (one vs)
  one_keeps [] = stuck_keeps
  one_keeps (v ∷ []) = give_keeps v
  one_keeps (v ∷ u ∷ vs) = stuck_keeps

  pub integer_keeps : (v : Scalar) → Keeps P (integer v)
  integer_keeps (Integer t x) = give_keeps x
  integer_keeps v = stuck_keeps

  accessed_keeps : (cells : ℕ) (v : Scalar) → Keeps P (accessed cells v)
  accessed_keeps cells (Thin None) = raise_keeps _
  accessed_keeps cells (Thin (Some s)) = give_keeps s
  accessed_keeps cells (Wide p) = element_keeps cells p
  accessed_keeps cells v = stuck_keeps

  -- ---- what an expression denotes

  pub value_is_keeps : (s : Shape) (act : Act (List Scalar)) → Keeps P act → SenseKeeps P (value_sense s act)
  value_is_keeps s act x = record { value = x; look = x; place = stuck_keeps }

  place_is_keeps : (w : World) (s : Shape) (at : Act Spot) → Keeps P at → SenseKeeps P (place_sense w s at)
  place_is_keeps w s at x = record {
    value = record { go = λ next m h. x.go _ m (λ spot m1. (take_keeps (cells_of w s) spot).go next m1 h) };
    look = record { go = λ next m h. x.go _ m (λ spot m1. (read_cells_keeps (length (cells_of w s)) spot).go next m1 h) };
    place = x;
  }

  pub no_sense_keeps : SenseKeeps P no_sense
  no_sense_keeps = value_is_keeps _ _ stuck_keeps

  if_sense_keeps : (b : Bool) (first second : Sense) → SenseKeeps P first → SenseKeeps P second → SenseKeeps P (if b then first else second)
  if_sense_keeps true first second x y = x
  if_sense_keeps false first second x y = y

  pub entity_keeps : (w : World) (e : Option Entity) → SenseKeeps P (entity_sense w e)
  entity_keeps w None = no_sense_keeps
  entity_keeps w (Some (Variable (ArrayShape count of) at)) = value_is_keeps _ _ (give_keeps _)
  entity_keeps w (Some (Variable s at)) = place_is_keeps w s (give at) (give_keeps at)

  -- one scalar, looked at, and what is done with it
  pub looked : {A : Type 0} (e : Sense) → SenseKeeps P e → (f : Scalar → Act A) → ((v : Scalar) → Keeps P (f v)) → Keeps P (e.look >>= one >>= f)
  looked e x f then_keeps = record { go = λ next m h. x.look.go _ m (λ vs m1. (one_keeps vs).go _ m1 (λ v m2. (then_keeps v).go next m2 h)) }

  pub contents_keeps : (w : World) (e : Sense) → SenseKeeps P e → SenseKeeps P (contents w e)
  contents_keeps w e x = place_is_keeps w (pointee e.shape) _ (looked e x _ (accessed_keeps _))

  span_keeps : (all k : ℕ) (v : Scalar) → Keeps P (indexed_span all k v)
  span_keeps all k (Wide None) = give_keeps _
  span_keeps all k (Wide (Some s)) = give_keeps _
  span_keeps all k (Thin None) = give_keeps _
  span_keeps all k (Thin (Some s)) = give_keeps _
  span_keeps all k v = stuck_keeps

  pub indexed_keeps : (w : World) (a b : Sense) → SenseKeeps P a → SenseKeeps P b → SenseKeeps P (indexed w a b)
  indexed_keeps w a b x y = place_is_keeps w (pointee a.shape) _ (record {
    go = λ next m h. y.look.go _ m (λ us m1. (one_keeps us).go _ m1 (λ u m2. (integer_keeps u).go _ m2 (λ k m3.
        x.look.go _ m3 (λ vs m4. (one_keeps vs).go _ m4 (λ v m5. (span_keeps (bound_in a.shape) k v).go _ m5 (λ p m6. (accessed_keeps _ p).go next m6 h))))));
  })

  pub member_keeps : (w : World) (e : Sense) (f : List ℕ) → SenseKeeps P e → SenseKeeps P (member w e f)
  member_keeps w e f x = place_is_keeps w _ _ (record { go = λ next m h. x.place.go _ m (λ s m1. h _ m1) })

  address_keeps : (e : Sense) → SenseKeeps P e → SenseKeeps P (address_of e)
  address_keeps e x = value_is_keeps _ _ (record { go = λ next m h. x.place.go _ m (λ s m1. h _ m1) })

  pub assigned_keeps : (w : World) (to from : Sense) → SenseKeeps P to → SenseKeeps P from → SenseKeeps P (assigned w to from)
  assigned_keeps w to from x y = value_is_keeps to.shape _ (record {
    go = λ next m h. y.value.go _ m (λ us m1. (converted_keeps w to.shape _ us).go _ m1 (λ vs m2.
        x.place.go _ m2 (λ s m3. (write_cells_keeps s vs).go _ m3 (λ a m4. h (given_by to.shape vs) m4))));
  })

  -- ---- operators

  pub constant_keeps : (t : IntegerType) (n : ℕ) → SenseKeeps P (constant t n)
  constant_keeps AsInt n = value_is_keeps _ _ (give_keeps _)
  constant_keeps AsUnsigned n = value_is_keeps _ _ (give_keeps _)
  constant_keeps AsChar n = value_is_keeps _ _ (give_keeps _)

  pub applied_keeps : (o : Operator) (a b : Sense) → SenseKeeps P a → SenseKeeps P b → SenseKeeps P (applied o a b)
  applied_keeps o a b x y = value_is_keeps _ _ (record {
    go = λ next m h. x.look.go _ m (λ us m1. (one_keeps us).go _ m1 (λ u m2. y.look.go _ m2 (λ vs m3. (one_keeps vs).go _ m3 (λ v m4.
        (need_keeps (operated m4 o u v)).go _ m4 (λ r m5. h _ m5)))));
  })

  pub truth_keeps : (e : Sense) → SenseKeeps P e → Keeps P (truth e)
  truth_keeps e x = looked e x _ (λ v. need_keeps (is_true v))

  pub all_true_keeps : (es : List Sense) → SensesKeep P es → Keeps P (all_true es)
  all_true_keeps [] x = give_keeps true
  all_true_keeps (e ∷ es) x = record {
    go = λ next m h. (truth_keeps e x.0).go _ m (λ t m1. (choose_keeps t (all_true es) (give false) (all_true_keeps es x.1) (give_keeps false)).go next m1 h);
  }

  pub any_true_keeps : (es : List Sense) → SensesKeep P es → Keeps P (any_true es)
  any_true_keeps [] x = give_keeps false
  any_true_keeps (e ∷ es) x = record {
    go = λ next m h. (truth_keeps e x.0).go _ m (λ t m1. (choose_keeps t (give true) (any_true es) (give_keeps true) (any_true_keeps es x.1)).go next m1 h);
  }

  pub tested_keeps : (act : Act Bool) → Keeps P act → SenseKeeps P (tested act)
  tested_keeps act x = value_is_keeps _ _ (record { go = λ next m h. x.go _ m (λ t m1. h _ m1) })

  inverted_keeps : (act : Act Bool) → Keeps P act → Keeps P (inverted act)
  inverted_keeps act x = record {
    go = λ next m h. x.go _ m (λ t m1. (choose_keeps t (give false) (give true) (give_keeps false)
        (give_keeps true)).go next m1 h);
  }

  pub prefixed_keeps : (w : World) (o : Prefix) (e : Sense) → SenseKeeps P e → SenseKeeps P (prefixed w o e)
  prefixed_keeps w Negate e x = applied_keeps Subtract (constant AsInt 0) e (constant_keeps AsInt 0) x
  prefixed_keeps w Complement e x = applied_keeps BitXor (constant AsInt 4294967295) e (constant_keeps AsInt 4294967295) x
  prefixed_keeps w Not e x = tested_keeps (inverted (truth e)) (inverted_keeps (truth e) (truth_keeps e x))
  prefixed_keeps w Dereference e x = contents_keeps w e x
  prefixed_keeps w AddressOf e x = address_keeps e x

  left_keeps : (v : Scalar) → Keeps P (elements_left v)
  left_keeps (Wide None) = give_keeps _
  left_keeps (Wide (Some s)) = give_keeps _
  left_keeps v = stuck_keeps

  pub counted_keeps : (e : Sense) → SenseKeeps P e → SenseKeeps P (counted e)
  counted_keeps e x = value_is_keeps _ _ (record { go = λ next m h. (looked e x _ left_keeps).go _ m (λ n m1. h _ m1) })

  -- ---- calls

  all_converted_keeps : (w : World) (shapes : List Shape) (es : List Sense) → SensesKeep P es → Keeps P (converted_all w shapes es)
  all_converted_keeps w [] [] x = give_keeps []
  all_converted_keeps w (s ∷ ss) (e ∷ es) x = record {
    go = λ next m h. x.0.value.go _ m
        (λ us m1. (converted_keeps w s e.shape us).go _ m1 (λ vs m2. (all_converted_keeps w ss es x.1).go _ m2 (λ vss m3. h _ m3)));
  }
  all_converted_keeps w [] (e ∷ es) x = stuck_keeps
  all_converted_keeps w (s ∷ ss) [] x = stuck_keeps

  called_keeps : (w : World) (name : List ℕ) (found : Option Routine) (es : List Sense) → function_of w.functions name ≡ found → P.MayCall w name
      → SensesKeep P es → SenseKeeps P (called w found es)
  called_keeps w name None es is may x = no_sense_keeps
  called_keeps w name (Some f) es is may x = value_is_keeps _ _ (record {
    go = λ next m h. (all_converted_keeps w (part_shapes f.parameters) es x).go _ m (λ vss m1. P.calls w name f is may vss next m1 h);
  })

  read_byte_keeps : (es : List Sense) → Keeps P (read_byte es)
  read_byte_keeps [] = record { go = λ next m h. P.reads _ m (λ byte. h _ m) }
  read_byte_keeps (e ∷ es) = stuck_keeps

  write_byte_keeps : (w : World) (es : List Sense) → SensesKeep P es → Keeps P (write_byte w es)
  write_byte_keeps w es x = record {
    go = λ next m h. (all_converted_keeps w (IntShape ∷ []) es x).go _ m (λ vss m1. (one_keeps (flat vss)).go _ m1 (λ v m2. (integer_keeps v).go _ m2
        (λ n m3. P.writes _ _ m3 (h _ m3))));
  }

  struct_keeps : (w : World) (tag : List ℕ) (es : List Sense) → SensesKeep P es → SenseKeeps P (struct_made w tag es)
  struct_keeps w tag es x = value_is_keeps _ _ (record { go = λ next m h. (all_converted_keeps w _ es x).go _ m (λ vss m1. h _ m1) })

  pub call_keeps : (w : World) (name : List ℕ) (es : List Sense) → P.MayCall w name → SensesKeep P es → SenseKeeps P (call_sense w name es)
  call_keeps w name es may x =
      if_sense_keeps (bytes_eq name (codes "getchar")) _ _ (value_is_keeps _ _ (read_byte_keeps es))
      (if_sense_keeps (bytes_eq name (codes "putchar")) _ _ (value_is_keeps _ _ (write_byte_keeps w es x))
      (if_sense_keeps (has_tag w.structs name) _ _ (struct_keeps w name es x) (called_keeps w name (function_of w.functions name) es refl may x)))

  -- ---- made values

  pub union_keeps : (w : World) (tag f : List ℕ) (e : Sense) → SenseKeeps P e → SenseKeeps P (union_made w tag f e)
  union_keeps w tag f e x = value_is_keeps _ _ (record {
    go = λ next m h. x.value.go _ m (λ us m1. (converted_keeps w (part_shape (parts_of w.unions tag) f) e.shape us).go _ m1
        (λ vs m2. (one_keeps vs).go _ m2 (λ v m3. (need_keeps _).go _ m3 (λ k m4. h _ m4))));
  })

  pub object_keeps : (r : Region) (o : Object) → Keeps P (make_object r o)
  object_keeps r o = record { go = λ next m h. (check_keeps (is_live m r)).go _ m (λ a m1. h _ _) }

  ask_keeps : (to : Maker) (bytes : ℕ) (o : Object) → Keeps P (ask to bytes o)
  ask_keeps (InRegion r) bytes o =
      record { go = λ next m h. (check_keeps (is_live m (Born r))).go _ m (λ a m1. P.says _ tt _ ((object_keeps (Born r) o).go next m1 h)) }
  ask_keeps AsUnique bytes o =
      record {
        go = λ next m h. P.says _ tt _
            ((object_keeps (Born m.births) o).go next (with_state (record m { births = m.births + 1 }) (Born m.births) Live) h);
      }

  pub made_keeps : (w : World) (to : Act Maker) (owner : Owner) (e : Sense) → Keeps P to → SenseKeeps P e → SenseKeeps P (made w to owner e)
  made_keeps w to owner e x y = value_is_keeps _ _ (record {
    go = λ next m h. x.go _ m (λ place m1.
        y.value.go _ m1 (λ vs m2. (ask_keeps place _ _).go _ m2 (λ s m3. (write_cells_keeps s vs).go _ m3 (λ a m4. h _ m4))));
  })

  pub state_keeps : (r : Region) (state : State) → Keeps P (set_state r state)
  state_keeps r state = record { go = λ next m h. h tt _ }

  pub finally_keeps : {A : Type 0} (act : Act A) (exit : Act (Unit {0})) → Keeps P act → Keeps P exit → Keeps P (finally act exit)
  finally_keeps act exit x y = record { go = λ next m h. x.go _ m (λ a m1. y.go _ m1 (λ u m2. h a m2)) }

  pub in_region_keeps : {A : Type 0} (enter : Act ℕ) (leave : ℕ → Act (Unit {0})) (body : ℕ → Act A) → Keeps P enter → ((k : ℕ) → Keeps P (leave k))
      → ((k : ℕ) → Keeps P (body k)) → Keeps P (in_region enter leave body)
  in_region_keeps enter leave body x y z = record { go = λ next m h. x.go _ m (λ r m1. (finally_keeps (body r) (leave r) (z r) (y r)).go next m1 h) }

  enter_keeps : Keeps P enter_block
  enter_keeps = record { go = λ next m h. h _ _ }

  pub block_keeps : {A : Type 0} (body : ℕ → Act A) → ((k : ℕ) → Keeps P (body k)) → Keeps P (in_block body)
  block_keeps body x = in_region_keeps enter_block (λ k. set_state (Frame k) Dead) body enter_keeps (λ k. state_keeps (Frame k) Dead) x

  elements_keeps : (cells n i : ℕ) (s index : Spot) (e : Sense) → SenseKeeps P e → Keeps P (elements cells n i s index e)
  elements_keeps cells zero i s index e x = give_keeps tt
  elements_keeps cells (suc n) i s index e x = record {
    go = λ next m h. P.pays _ m ((write_cells_keeps index (Integer AsUnsigned i ∷ [])).go _ m (λ a m1. x.value.go _ m1 (λ vs m2.
        (write_cells_keeps (beyond s (i * cells)) vs).go _ m2 (λ b m3. (elements_keeps cells n (i + 1) s index e x).go next m3 h))));
  }

  block_of_elements_keeps : (cells n k : ℕ) (s : Spot) (e : Sense) → SenseKeeps P e → Keeps P (index_made k >> elements cells n 0 s (index_in k) e)
  block_of_elements_keeps cells n k s e x =
      record { go = λ next m h. (object_keeps (Frame k) _).go _ m (λ at m1. (elements_keeps cells n 0 s (index_in k) e x).go next m1 h) }

  pub array_keeps : (w : World) (to : Act Maker) (count : Sense) (element_at : ℕ → Sense) → Keeps P to → SenseKeeps P count
      → ((k : ℕ) → SenseKeeps P (element_at k)) → SenseKeeps P (array_made w to count element_at)
  array_keeps w to count element_at x y z = value_is_keeps _ _ (record {
    go = λ next m h. x.go _ m (λ place m1. y.look.go _ m1 (λ us m2. (one_keeps us).go _ m2 (λ u m3. (integer_keeps u).go _ m3 (λ n m4.
        (ask_keeps place _ _).go _ m4 (λ s m5. (block_keeps _ (λ k. block_of_elements_keeps _ n k s (element_at k) (z k))).go _ m5
        (λ a m6. h (span_at n s ∷ []) m6))))));
  })

  maker_keeps : (v : Scalar) → Keeps P (maker_of v)
  maker_keeps (HandleOf r) = give_keeps _
  maker_keeps v = stuck_keeps

  pub handle_keeps : (e : Sense) → SenseKeeps P e → Keeps P (handle_maker e)
  handle_keeps e x = looked e x _ maker_keeps

  pub made_in_keeps : (w : World) (unique : Bool) (handle e : Sense) → SenseKeeps P handle → SenseKeeps P e → SenseKeeps P (made_in w unique handle e)
  made_in_keeps w true handle e x y = made_keeps w (give AsUnique) Alone e (give_keeps AsUnique) y
  made_in_keeps w false handle e x y = made_keeps w _ Shared e (handle_keeps handle x) y

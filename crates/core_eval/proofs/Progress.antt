-- How far an evaluation comes by what it takes, writes and gathers.
use Rattle.std.proofs.Common.{
  ◌≡◌,
  ℕ,
  suc,
  ◌+◌,
  ◌-◌,
  ◌<◌,
  Bool,
  true,
  false,
  List,
  [],
  ◌∷◌,
  ◌++◌,
  Option,
  Some,
  None,
  IfSome,
  refl,
  sym,
  ap,
  ◌∙◌,
  subst,
  inl,
  inr,
  append_assoc,
  append-nil,
  arith,
}
use Rattle.std.specs.List.{Contains}
use Rattle.std.specs.Io.KnownBytes.{Consumes, Keeps, IsAtEnd}
use Rattle.std.proofs.KnownBytes.{Appends-trans, Consumes-trans, Consumes-kept}
use Rattle.core_meaning.specs.Core.{Program}
use Rattle.cyc_words.specs.Events as events
use Rattle.cyc_words.specs.Events.{ByteRead, ByteWritten, output, bytes_read}
use Rattle.core_meaning.specs.Memory.{Memory}
use Rattle.core_meaning.specs.Steps.{Config, Event, Visible, Called, Returned, Exit, Invocation, LoopTurn, Step}
use Rattle.core_meaning.specs.Meaning.{bodies, called, turned, core}
use Rattle.core_meaning.specs.Memory.{Content}
use Rattle.step_trees.specs.Trees.{Says, Reads, Pays, Calls, Turns, Outcome, after, run}
use Rattle.core_eval.specs.Standing.{saying, AreAllSilent}
use Rattle.core_eval.specs.Evaluated.{seen}
use Rattle.core_eval.specs.Stages.{Progress, prepended}
use Rattle.core_eval.proofs.Quiet.{told_first, said_silent}
use Rattle.cyc_words.proofs.Events.{bytes_push, output_append, read_append, told_before}
use Rattle.cyc_host.specs.Transfers.{WritesBut, Answers}

-- ---- events

pub seen_append : (xs ys : List Event) → seen (xs ++ ys) ≡ seen xs ++ seen ys
seen_append [] ys = refl
seen_append (Visible e ∷ xs) ys = ap (λ l. e ∷ l) (seen_append xs ys)
seen_append (Called f ∷ xs) ys = seen_append xs ys
seen_append (Returned f ∷ xs) ys = seen_append xs ys

pub reads_append : (xs ys : List Event) → bytes_read (seen (xs ++ ys)) ≡ bytes_read (seen xs) ++ bytes_read (seen ys)
reads_append xs ys = ap bytes_read (seen_append xs ys) ∙ read_append (seen xs) (seen ys)

-- the bytes of events and those after them
pub bytes_append : (xs ys : List Event) → output (seen (xs ++ ys)) ≡ output (seen xs) ++ output (seen ys)
bytes_append xs ys = ap output (seen_append xs ys) ∙ output_append (seen xs) (seen ys)

one_more : (es : List Event) (e : Event) (o : Outcome Event) → prepended es (after e o) ≡ prepended (es ++ e ∷ []) o
one_more es e o = ap (λ l. record { events = l; ending = o.ending }) (sym (append_assoc es (e ∷ []) o.events))

-- what is said first comes first
pub said_run : (p : Program) (n : ℕ) (es : List Event) (s : Step) (i : List ℕ) → run (bodies p) n (saying es s) i ≡ prepended es (run (bodies p) n s i)
said_run p n [] s i = refl
said_run p n (e ∷ es) s i = ap (after e) (said_run p n es s i)

prepended_both : (first second : List Event) (o : Outcome Event) → prepended first (prepended second o) ≡ prepended (first ++ second) o
prepended_both first second o = ap (λ l. record { events = l; ending = o.ending }) (sym (append_assoc first second o.events))

-- ---- steps

module _ {p : Program} {fuel left : ℕ} {is_over : Bool} {s : Step} {reader_old reader writer_old writer : Option (List ℕ)} {gathered : List ℕ} where
  -- events that were said and are no bytes
  pub settled : Progress p fuel left is_over s reader_old reader writer_old writer gathered → (es : List Event) (s' : Step) → AreAllSilent es → s ≡ saying es s'
      → Progress p fuel left is_over s' reader_old reader writer_old writer gathered
  settled x es s' said is =
      let silent = said_silent es said in
      record {
        input = x.input;
        units = x.units;
        spent = x.spent;
        events = x.events ++ es;
        written = x.written;
        consumed = x.consumed;
        bytes = x.bytes;
        taken = reads_append x.events es ∙ ap (λ l. bytes_read (seen x.events) ++ l) silent.read ∙ append-nil (bytes_read (seen x.events)) ∙ x.taken;
        appended = x.appended;
        shows = bytes_append x.events es ∙ ap (λ l. output (seen x.events) ++ l) silent.written ∙ append-nil (output (seen x.events)) ∙ x.shows;
        told = λ has.
            x.told (told_first (seen x.events) (seen es) silent
            (subst (λ (l : List events.Event). Contains l (ByteRead None)) (seen_append x.events es) has));
        at_end = x.at_end;
        ran = λ n more end. x.ran n more end ∙ ap (λ (t : Step). prepended x.events (run (bodies p) n t more)) is
            ∙ ap (prepended x.events) (said_run p n es s' more) ∙ prepended_both x.events es (run (bodies p) n s' more);
      }

  -- one of the units is the next
  one_unit : (x : Progress p fuel left is_over s reader_old reader writer_old writer gathered) → (n : ℕ) (more : List ℕ) → (is_over ≡ true → more ≡ [])
      → core p (x.input ++ more) (suc x.units + n) ≡ prepended x.events (run (bodies p) (suc n) s more)
  one_unit x n more end = let same : suc x.units + n ≡ x.units + suc n = omega arith in ap (core p (x.input ++ more)) same ∙ x.ran (suc n) more end

  -- a byte is gathered, for a unit
  pub put_one : Progress p fuel left is_over s reader_old reader writer_old writer gathered → 0 < left → (byte : ℕ) (next : Config → Step) (m : Config)
      → s ≡ Pays (λ m'. Says (Visible (ByteWritten byte)) (next m')) m
      → Progress p fuel (left - 1) is_over (next m) reader_old reader writer_old writer (gathered ++ byte ∷ [])
  put_one x h byte next m is = record {
    input = x.input;
    units = suc x.units;
    spent = let e = x.spent in omega arith;
    events = x.events ++ Visible (ByteWritten byte) ∷ [];
    written = x.written;
    consumed = x.consumed;
    bytes = x.bytes;
    taken = reads_append x.events (Visible (ByteWritten byte) ∷ []) ∙ append-nil (bytes_read (seen x.events)) ∙ x.taken;
    appended = x.appended;
    shows = bytes_append x.events (Visible (ByteWritten byte) ∷ []) ∙ ap (λ l. l ++ byte ∷ []) x.shows ∙ append_assoc x.written gathered (byte ∷ []);
    told = λ has. told_before (seen x.events) (ByteWritten byte) (ByteRead None) x.told (λ same. (cc)) (subst (λ (es : List events.Event). Contains es
        (ByteRead None)) (seen_append x.events (Visible (ByteWritten byte) ∷ [])) has);
    at_end = x.at_end;
    ran = λ n more end. one_unit x n more end
        ∙ ap (λ (t : Step). prepended x.events (run (bodies p) (suc n) t more)) is
        ∙ one_more x.events (Visible (ByteWritten byte)) (run (bodies p) n (next m) more);
  }

  -- a turn of a loop, for a unit
  pub turned_once : Progress p fuel left is_over s reader_old reader writer_old writer gathered → 0 < left
      → (turn : LoopTurn) (next : Exit → Config → Step) (c : Config) → s ≡ Turns turn next c
      → Progress p fuel (left - 1) is_over (turned turn next c) reader_old reader writer_old writer gathered
  turned_once x h turn next c is = record {
    input = x.input;
    units = suc x.units;
    spent = let e = x.spent in omega arith;
    events = x.events;
    written = x.written;
    consumed = x.consumed;
    bytes = x.bytes;
    taken = x.taken;
    appended = x.appended;
    shows = x.shows;
    told = x.told;
    at_end = x.at_end;
    ran = λ n more end. one_unit x n more end ∙ ap (λ (t : Step). prepended x.events (run (bodies p) (suc n) t more)) is;
  }

  -- a call, for a unit
  pub called_once : Progress p fuel left is_over s reader_old reader writer_old writer gathered → 0 < left
      → (call : Invocation) (next : List Content → Memory → Step) (m : Memory) → s ≡ Calls call next m
      → Progress p fuel (left - 1) is_over (called p.functions call next m) reader_old reader writer_old writer gathered
  called_once x h call next m is = record {
    input = x.input;
    units = suc x.units;
    spent = let e = x.spent in omega arith;
    events = x.events;
    written = x.written;
    consumed = x.consumed;
    bytes = x.bytes;
    taken = x.taken;
    appended = x.appended;
    shows = x.shows;
    told = x.told;
    at_end = x.at_end;
    ran = λ n more end. one_unit x n more end ∙ ap (λ (t : Step). prepended x.events (run (bodies p) (suc n) t more)) is;
  }

  -- some of what is gathered is written
  pub wrote : Progress p fuel left is_over s reader_old reader writer_old writer gathered → (writer_next : Option (List ℕ)) (rest : List ℕ)
      → WritesBut writer writer_next gathered rest → Progress p fuel left is_over s reader_old reader writer_old writer_next rest
  wrote x writer_next rest w = record {
    input = x.input;
    units = x.units;
    spent = x.spent;
    events = x.events;
    written = x.written ++ w.written;
    consumed = x.consumed;
    bytes = x.bytes;
    taken = x.taken;
    appended = Appends-trans _ _ _ _ _ x.appended w.appended;
    shows = x.shows ∙ ap (λ l. x.written ++ l) w.split ∙ sym (append_assoc x.written w.written rest);
    told = x.told;
    at_end = x.at_end;
    ran = x.ran;
  }

  -- a read took nothing
  pub kept : Progress p fuel left is_over s reader_old reader writer_old writer gathered → (reader_next : Option (List ℕ)) → Keeps reader reader_next
      → is_over ≡ false → Progress p fuel left is_over s reader_old reader_next writer_old writer gathered
  kept x reader_next keeps was_open = record {
    input = x.input;
    units = x.units;
    spent = x.spent;
    events = x.events;
    written = x.written;
    consumed = Consumes-kept _ _ _ _ x.consumed keeps;
    bytes = x.bytes;
    taken = x.taken;
    appended = x.appended;
    shows = x.shows;
    told = x.told;
    at_end = λ over. absurd (cc);
    ran = x.ran;
  }

  -- a byte or the input's end is read, for a unit
  pub answered : Progress p fuel left is_over s reader_old reader writer_old writer gathered → 0 < left → (next : Option ℕ → Config → Step) (m : Config)
      → s ≡ Pays (λ m'. Reads (λ b. next b m')) m → (reader_next : Option (List ℕ)) (will_be : Bool) (answer : Option ℕ)
      → Answers reader reader_next is_over will_be answer → IfSome answer (λ byte. byte < 256)
      → Progress p fuel (left - 1) will_be (next answer m) reader_old reader_next writer_old writer gathered
  answered x h next m is reader_next will_be None (consumes, ended, end) below = record {
    input = x.input;
    units = suc x.units;
    spent = let e = x.spent in omega arith;
    events = x.events ++ Visible (ByteRead None) ∷ [];
    written = x.written;
    consumed = subst (Consumes _ _) (append-nil x.input) (Consumes-trans _ _ _ _ _ x.consumed consumes);
    bytes = x.bytes;
    taken = reads_append x.events (Visible (ByteRead None) ∷ []) ∙ append-nil (bytes_read (seen x.events)) ∙ x.taken;
    appended = x.appended;
    shows = bytes_append x.events (Visible (ByteRead None) ∷ []) ∙ append-nil (output (seen x.events)) ∙ x.shows;
    told = λ has. ended;
    at_end = λ over. elim end [ inl reached ↦ reached | inr (before, same) ↦ subst IsAtEnd (sym same) (x.at_end before) ];
    ran = λ n more last.
        let none : more ≡ [] = last ended in
        subst (λ (l : List ℕ). core p (x.input ++ l) (suc x.units + n) ≡ prepended (x.events ++ Visible (ByteRead None) ∷ []) (run (bodies p) n
        (next None m) l)) (sym none)
        (one_unit x n [] (λ _. refl)
        ∙ ap (λ (t : Step). prepended x.events (run (bodies p) (suc n) t [])) is
        ∙ one_more x.events (Visible (ByteRead None)) (run (bodies p) n (next None m) []));
  }
  answered x h next m is reader_next will_be (Some byte) (consumes, before, over) below = record {
    input = x.input ++ byte ∷ [];
    units = suc x.units;
    spent = let e = x.spent in omega arith;
    events = x.events ++ Visible (ByteRead (Some byte)) ∷ [];
    written = x.written;
    consumed = Consumes-trans _ _ _ _ _ x.consumed consumes;
    bytes = bytes_push x.input byte x.bytes below;
    taken = reads_append x.events (Visible (ByteRead (Some byte)) ∷ []) ∙ ap (λ l. l ++ byte ∷ []) x.taken;
    appended = x.appended;
    shows = bytes_append x.events (Visible (ByteRead (Some byte)) ∷ []) ∙ append-nil (output (seen x.events)) ∙ x.shows;
    told = λ has. absurd (let was : is_over ≡ true = told_before (seen x.events) (ByteRead (Some byte)) (ByteRead None) x.told (λ same. (cc)) (subst (λ
        (es : List events.Event). Contains es (ByteRead None)) (seen_append x.events (Visible (ByteRead (Some byte)) ∷ [])) has) in cc);
    at_end = λ end. absurd (cc);
    ran = λ n more last.
        ap (λ l. core p l (suc x.units + n)) (append_assoc x.input (byte ∷ []) more)
        ∙ one_unit x n (byte ∷ more) (λ end. (cc))
        ∙ ap (λ (t : Step). prepended x.events (run (bodies p) (suc n) t (byte ∷ more))) is
        ∙ one_more x.events (Visible (ByteRead (Some byte))) (run (bodies p) n (next (Some byte) m) more);
  }

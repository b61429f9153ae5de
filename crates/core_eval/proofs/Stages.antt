-- What a run between a reader and a writer comes to by each unit, and where it begins.
use Rattle.std.proofs.Common.{◌≡◌, ℕ, ◌+◌, ◌-◌, ◌<◌, Bool, false, List, [], ◌∷◌, ◌++◌, Option, IfSome, refl, sym, ap, subst, arith}
use Rattle.std.specs.Io.KnownBytes.{Keeps}
use Rattle.std.proofs.KnownBytes.{Appends-nil, Consumes-nil}
use Rattle.core_meaning.specs.Memory.{Content, Word}
use Rattle.core_meaning.specs.Core.{Program, Statements}
use Rattle.core_meaning.specs.Steps as steps
use Rattle.core_meaning.specs.Steps.{Config, with_temp}
use Rattle.core_meaning.specs.Operations.{byte_word}
use Rattle.core_meaning.specs.Meaning.{start, core}
use Rattle.cyc_host.specs.Transfers.{WritesBut, Answers}
use Rattle.core_eval.specs.declared.value.Value.{Value}
use Rattle.core_eval.specs.Pendings.{Follow, Leave, Wait, Body, Next, Go, GetcharDue, PutcharDue, TurnDue, CallDue, Mark, rest_of, returned_to, coming}
use Rattle.core_eval.specs.Standing.{Known, Agrees, Stands, StandsStill, Gives, IsCall}
use Rattle.core_eval.specs.Stages.{Progress, Stage}
use Rattle.core_eval.proofs.OperationMoves.{given, agrees_given}
use Rattle.core_eval.proofs.Progress.{settled, put_one, turned_once, called_once, wrote, kept, answered}

-- nothing was done as yet
pub begun : (p : Program) (fuel : ℕ) (next : Next) (known : Known) (reader writer : Option (List ℕ)) → Stands p.main (start p) next [] known
    → Stage p fuel fuel false next [] known reader reader writer writer []
begun p fuel next known reader writer stands = record {
  s = start p;
  stands = stands;
  progress = record {
    input = [];
    units = 0;
    spent = omega arith;
    events = [];
    written = [];
    consumed = Consumes-nil reader;
    bytes = tt;
    taken = refl;
    appended = Appends-nil writer;
    shows = refl;
    told = λ (k, below, is). absurd (omega arith);
    at_end = λ over. absurd (cc);
    ran = λ n more end. let all : 0 + n ≡ n = omega arith in ap (core p more) all;
  };
}

-- a state right after a unit
stands_at : (p : Program) (next : Next) (ws : List Wait) (known : Known) (marks : List Mark) (c : Config) → Agrees known ws marks c
    → Stands p.main (coming next (rest_of p.main ws marks) c) next ws known
stands_at p next ws known marks c agrees = record { said = []; silent = tt; marks = marks; config = c; agrees = agrees; same = refl }

module _ {p : Program} {fuel left : ℕ} {is_over : Bool} {ws : List Wait} {known : Known} {reader_old reader writer_old writer : Option
    (List ℕ)} {gathered : List ℕ} where
  pub stage_still : (next : Next) → Stage p fuel left is_over next ws known reader_old reader writer_old writer gathered
      → (next' : Next) (ws' : List Wait) (known' : Known) → StandsStill next ws known next' ws' known'
      → Stage p fuel left is_over next' ws' known' reader_old reader writer_old writer gathered
  stage_still next x next' ws' known' still = record { s = x.s; stands = still p.main x.s x.stands; progress = x.progress }

  -- what was said is among the events
  pub settle : (next : Next) (x : Stage p fuel left is_over next ws known reader_old reader writer_old writer gathered)
      → Progress p fuel left is_over (coming next (rest_of p.main ws x.stands.marks) x.stands.config) reader_old reader writer_old writer gathered
  settle next x = settled x.progress x.stands.said _ x.stands.silent x.stands.same

  -- the progress of a write, also where its word has no place
  pub put : (t byte : ℕ) (x : Stage p fuel left is_over (PutcharDue t byte) ws known reader_old reader writer_old writer gathered) → 0 < left
      → Progress p fuel (left - 1) is_over (rest_of p.main ws x.stands.marks steps.Falls (with_temp t (Word byte) x.stands.config))
      reader_old reader writer_old writer (gathered ++ byte ∷ [])
  put t byte x h =
      put_one (settle (PutcharDue t byte) x) h byte (λ c. rest_of p.main ws x.stands.marks steps.Falls (with_temp t (Word byte) c)) x.stands.config refl

  pub stage_put : (t byte : ℕ) (temps : List Value) → Stage p fuel left is_over (PutcharDue t byte) ws known reader_old reader writer_old writer gathered
      → 0 < left
      → Gives t (Word byte) known.temps temps
      → Stage p fuel (left - 1) is_over (Go (Leave steps.Falls)) ws (given known temps) reader_old reader writer_old writer (gathered ++ byte ∷ [])
  stage_put t byte temps x h gives =
      let st = x.stands in
      record {
        s = _;
        stands = stands_at p (Go (Leave steps.Falls)) ws (given known temps) st.marks (with_temp t (Word byte) st.config)
            (agrees_given known temps ws t (Word byte) gives st.marks st.config st.agrees);
        progress = put t byte x h;
      }

  -- the progress of a read, also where its word has no place
  pub got : (t : ℕ) (x : Stage p fuel left is_over (GetcharDue t) ws known reader_old reader writer_old writer gathered) → 0 < left
      → (reader_next : Option (List ℕ)) (will_be : Bool) (answer : Option ℕ) → Answers reader reader_next is_over will_be answer
      → IfSome answer (λ byte. byte < 256)
      → Progress p fuel (left - 1) will_be
      (rest_of p.main ws x.stands.marks steps.Falls (with_temp t (Word (byte_word answer)) x.stands.config)) reader_old reader_next writer_old writer
      gathered
  got t x h reader_next will_be answer gives below =
      answered (settle (GetcharDue t) x) h
      (λ b c. rest_of p.main ws x.stands.marks steps.Falls (with_temp t (Word (byte_word b)) c)) x.stands.config refl reader_next will_be answer gives below

  pub stage_get : (t : ℕ) (temps : List Value) → Stage p fuel left is_over (GetcharDue t) ws known reader_old reader writer_old writer gathered → 0 < left
      → (reader_next : Option (List ℕ)) (will_be : Bool) (answer : Option ℕ) → Answers reader reader_next is_over will_be answer
      → IfSome answer (λ byte. byte < 256) → Gives t (Word (byte_word answer)) known.temps temps
      → Stage p fuel (left - 1) will_be (Go (Leave steps.Falls)) ws (given known temps) reader_old reader_next writer_old writer gathered
  stage_get t temps x h reader_next will_be answer answers below gives =
      let st = x.stands in
      record {
        s = _;
        stands = stands_at p (Go (Leave steps.Falls)) ws (given known temps) st.marks (with_temp t (Word (byte_word answer)) st.config)
            (agrees_given known temps ws t (Word (byte_word answer)) gives st.marks st.config st.agrees);
        progress = got t x h reader_next will_be answer answers below;
      }

  pub stage_turn : (test : Statements) (flag : ℕ) (body : Statements)
      → Stage p fuel left is_over (TurnDue test flag body) ws known reader_old reader writer_old writer gathered → 0 < left
      → Stage p fuel (left - 1) is_over (Go (Follow body)) (Body test flag body ∷ ws) known reader_old reader writer_old writer gathered
  stage_turn test flag body x h =
      let st = x.stands in
      let a = st.agrees in
      record {
        s = _;
        stands = stands_at p (Go (Follow body)) (Body test flag body ∷ ws) known st.marks st.config
            (record {
              temps = a.temps;
              fresh = a.fresh;
              globals = a.globals;
              nested = a.nested;
              entered = a.entered;
              live = a.live;
              owned = a.owned;
              called = a.called;
              values_live = a.values_live;
              born = a.born;
            });
        progress = turned_once (settle (TurnDue test flag body) x) h (record { test = test; flag = flag; body = body })
            (rest_of p.main ws st.marks) st.config refl;
      }

  pub stage_call : (results : List ℕ) (f : ℕ) (arguments : List Content) (next : Next) (ws' : List Wait) (known' : Known)
      → Stage p fuel left is_over (CallDue results f arguments) ws known reader_old reader writer_old writer gathered → 0 < left
      → IsCall p.functions results f arguments ws known next ws' known'
      → Stage p fuel (left - 1) is_over next ws' known' reader_old reader writer_old writer gathered
  stage_call results f arguments next ws' known' x h call =
      let st = x.stands in
      record {
        s = _;
        stands = call p.main st.marks st.config st.agrees;
        progress = called_once (settle (CallDue results f arguments) x) h (record { function = f; arguments = arguments })
            (returned_to results st.config (rest_of p.main ws st.marks)) st.config.memory refl;
      }

  pub stage_wrote : (next : Next) → Stage p fuel left is_over next ws known reader_old reader writer_old writer gathered
      → (writer_next : Option (List ℕ)) (rest : List ℕ) → WritesBut writer writer_next gathered rest
      → Stage p fuel left is_over next ws known reader_old reader writer_old writer_next rest
  stage_wrote next x writer_next rest w = record { s = x.s; stands = x.stands; progress = wrote x.progress writer_next rest w }

  pub stage_kept : (next : Next) → Stage p fuel left is_over next ws known reader_old reader writer_old writer gathered → (reader_next : Option (List ℕ))
      → Keeps reader reader_next → is_over ≡ false → Stage p fuel left is_over next ws known reader_old reader_next writer_old writer gathered
  stage_kept next x reader_next keeps was_open = record { s = x.s; stands = x.stands; progress = kept x.progress reader_next keeps was_open }

  -- the same stage, said in another way
  pub stage_as : (next : Next) → Stage p fuel left is_over next ws known reader_old reader writer_old writer gathered
      → (next' : Next) (ws' : List Wait) (known' : Known) (gathered' : List ℕ) → next' ≡ next → ws' ≡ ws → known' ≡ known → gathered' ≡ gathered
      → Stage p fuel left is_over next' ws' known' reader_old reader writer_old writer gathered'
  stage_as next x next' ws' known' gathered' n w k g =
      subst (λ (m : Next). Stage p fuel left is_over m ws' known' reader_old reader writer_old writer gathered') (sym n)
      (subst (λ (l : List Wait). Stage p fuel left is_over next l known' reader_old reader writer_old writer gathered') (sym w)
      (subst (λ (l : Known). Stage p fuel left is_over next ws l reader_old reader writer_old writer gathered') (sym k)
      (subst (λ (l : List ℕ). Stage p fuel left is_over next ws known reader_old reader writer_old writer l) (sym g) x)))

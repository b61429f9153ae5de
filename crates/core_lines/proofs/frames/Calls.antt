-- Calls and returns do what Core does, where what is called does with less fuel.
use Rattle.std.specs.Prelude.{length, drop}
use Rattle.std.proofs.Common.{◌≡◌, ℕ, suc, ◌+◌, ◌%◌, ◌≤◌, Bool, false, List, [], ◌∷◌, ◌++◌, refl, sym, ap, subst, arith}
use Rattle.core_meaning.specs.Memory.{Content, Memory}
use Rattle.core_meaning.specs.Core.{Call, Return}
use Rattle.core_meaning.specs.Meaning as core
use Rattle.core_meaning.specs.Steps.{Config, Step, Exit, Falls, Returns, with_temp, with_memory}
use Rattle.core_meaning.specs.Meaning.{values_of, with_results}
use Rattle.core_lines.specs.Machines.{Machine}
use Rattle.core_lines.specs.declared.line.Line.{Line}
use Rattle.core_lines.specs.declared.line.Line.TheVariants.{Label, CallTo}
use Rattle.core_lines.specs.Lines.{code_length}
use Rattle.core_lines.specs.Held.{Register, Holding, with_source, with_results as holding_results}
use Rattle.core_lines.specs.Loaded.{unknown_in, loads_of_values}
use Rattle.core_lines.specs.Operands.{keep_code, pass_code, result_code, call_code, values_code, return_code}
use Rattle.core_lines.specs.Saved.{all_flagged, flags_of}
use Rattle.core_lines.specs.Lies.{Activation}
use Rattle.core_lines.proofs.memory.Relations.{StackShows, World, IsInOrder, Has, Waiting, Goes, Calling, Returning, Back, Stands, active_of, Covers, Follows}
use Rattle.core_lines.proofs.memory.Relations.{keeping, AreKept, Inside, EndsThere, back_of, restored, invoke}
use Rattle.core_lines.proofs.memory.Moving.{Comes, comes_then, comes_as, goes_from, goes_as, goes_stuck, goes_called, fewer}
use Rattle.core_lines.proofs.memory.Access.{length_of_both, behind}
use Rattle.core_lines.proofs.frames.Passing.{has_first, has_second, frame_fewer}
use Rattle.core_lines.proofs.frames.Arguments.{PassedAt, passes, calls_to}
use Rattle.core_lines.proofs.frames.Results.{ResultsAt, result_one}
use Rattle.core_lines.proofs.frames.Leaving.{returns, returns_last}
use Rattle.core_lines.proofs.operations.Registers.{AtHolding, at_any, with_there, as_holding, fewer_with, knows}
use Rattle.core_lines.proofs.Flags.{covers_none, follows_first}
use Rattle.core_lines.specs.Homes.{flag_at}
use Rattle.core_meaning.specs.Selectable.{AreBelow}
use Rattle.core_lines.proofs.frames.Going.{with_config, IsIn, GoesHolding, BodyGoes, GoesReturning}

-- ---- results

module _ (w : World) (order : IsInOrder w) (outer : List Waiting) (most : ℕ) (after : List Bool) (next : Config → Step) where
  -- One after the other into their temporaries. Those still to come have no words in their slots.
  results_go : (x : Waiting) (c : Config) (hs : List Holding) (ts : List ℕ) (vs : List Content) (r place : ℕ) (flags rest : List Bool) → IsIn x c → 9 ≤ r
      → AreBelow x.fn.temporaries ts → flags ≡ flags_of after ts ++ rest → Has w place (result_code flags x.fn.passed r ts)
      → GoesHolding w (keeping after x) outer most (place + code_length (result_code flags x.fn.passed r ts)) (holding_results r ts hs) next
      → Goes w most (with_results ts vs c next)
      (ResultsAt w (with_config (keeping (all_flagged false ts after) x) c) outer c.memory hs r vs place) (active_of w (x ∷ outer))
  results_go x c hs [] [] r place flags rest is far within are has goes =
      let y = with_config (keeping after x) c in
      let e : place + 0 ≡ place = omega arith in
      goes_as w _ _ most (next c) (AtHolding w y outer c.memory place hs)
      (λ s a. as_holding w y outer c.memory place hs s (knows w order y outer c.memory place _ _ s (λ m registers h. h.0) a))
      (subst (λ p. Goes w most (next c) (AtHolding w y outer c.memory p hs) (active_of w (x ∷ outer))) e (goes c is))
  results_go x c hs [] (v ∷ vs) r place flags rest is far within are has goes = goes_stuck w _ _ most
  results_go x c hs (t ∷ ts) [] r place flags rest is far within are has goes = goes_stuck w _ _ most
  results_go x c hs (t ∷ ts) (v ∷ vs) r place flags rest is far within are has goes =
      let keeps = flag_at flags 0 in
      let before = all_flagged false (t ∷ ts) after in
      let between = all_flagged false ts after in
      let first = keep_code keeps x.fn.passed (suc r) t in
      let others = result_code (drop 1 flags) x.fn.passed (suc r) ts in
      let more = with_source t (Register (suc r)) hs in
      let middle = place + code_length first in
      let there : place + code_length (first ++ others) ≡ middle + code_length others = omega (arith, length_of_both first others) in
      let follows : Follows keeps (t ∷ []) before between =
      subst (λ k. Follows k (t ∷ []) before between) (sym (ap (λ bs. flag_at bs 0) are)) (follows_first t ts after) in
      goes_from w _ _ most (with_results ts vs (with_temp t v c) next)
      (ResultsAt w (with_config (keeping between x) (with_temp t v c)) outer c.memory more (suc r) vs middle)
      (result_one w order (with_config (keeping before x) c) outer c.memory keeps between hs r t place v vs within.0 follows far
      (has_first w place first others has))
      (results_go x (with_temp t v c) more ts vs (suc r) middle (drop 1 flags) rest (record { blocks = is.blocks; own = is.own }) (omega (arith, far)) within.1
      (ap (λ bs. drop 1 bs) are) (has_second w place first others has)
      (subst (λ p. GoesHolding w (keeping after x) outer most p (holding_results (suc r) ts more) next) there goes))

-- ---- a call

-- behind the call, the innermost frame is the caller's again, with the results in registers
came_back : (w : World) (order : IsInOrder w) (x : Waiting) (outer : List Waiting) (c : Config) (m : Memory) (values : List Content) (place : ℕ) (s : Machine)
    → Back w (record (with_config x c) { behind = place } ∷ outer) m values s → ResultsAt w (with_config x (with_memory m c)) outer m [] 9 values place s
came_back w order x outer c m values place s b = by b.frames b.stands b.stack
  where
    by : (fs : List Activation) → Stands w m place b.maps fs b.sp b.sp s → StackShows w b.maps (record (with_config x c) { behind = place } ∷ outer) fs
        → ResultsAt w (with_config x (with_memory m c)) outer m [] 9 values place s
    by [] stands stack = absurd stack
    by (a ∷ fs) stands stack = record {
      maps = b.maps;
      frame = a;
      others = fs;
      sp = b.sp;
      stands = stands;
      shows = (let f = stack.0 in record {
        function = f.function;
        bytes = f.bytes;
        size = f.size;
        is = f.is;
        back_place = f.back_place;
        returns_to = f.returns_to;
        temps = f.temps;
        blocks = f.blocks;
        own = f.own;
        own_high = f.own_high;
        own_based = f.own_based;
        saved = f.saved;
        changed = f.changed;
        homes = f.homes;
      });
      stack = stack.1;
      holds = (tt, b.results);
    }

module _ (w : World) (order : IsInOrder w) (x : Waiting) (outer : List Waiting) (most : ℕ) (results : List ℕ) (f : ℕ) (arguments : List ℕ)
    (named_results : AreBelow x.fn.temporaries results) (named : AreBelow x.fn.temporaries arguments) (room : length arguments ≤ x.fn.passed)
    (next : Exit → Config → Step) (held : List Holding) (served : AreKept w x (unknown_in held arguments)) (after flags rest : List Bool)
    (covers : Covers x.kept (all_flagged false results after)) (are : flags ≡ flags_of after results ++ rest) (place : ℕ) (aligned : place % 4 ≡ 0)
    (has : Has w place (call_code flags x.fn.passed held results f arguments)) (bodies : (j : ℕ) → suc j ≤ most → BodyGoes w j f)
    (falls : GoesHolding w (keeping after x) outer most (place + code_length (call_code flags x.fn.passed held results f arguments))
    (holding_results 9 results []) (next Falls)) where
  abbrev first : List Line
  first = pass_code x.fn.passed held 0 arguments

  abbrev jump : List Line
  jump = CallTo f ∷ []

  abbrev last : List Line
  last = result_code flags x.fn.passed 9 results

  abbrev middle : ℕ
  middle = place + code_length first

  has_both : Has w place (first ++ jump)
  has_both = has_first w place (first ++ jump) last has

  has_last : Has w (middle + 4) last
  has_last =
      let e : place + code_length (first ++ jump) ≡ middle + 4 = omega (arith, length_of_both first jump) in
      subst (λ p. Has w p last) e (has_second w place (first ++ jump) last has)

  at_end : place + code_length (call_code flags x.fn.passed held results f arguments) ≡ middle + 4 + code_length last
  at_end = omega (arith, length_of_both (first ++ jump) last, length_of_both first jump)

  -- a call, its unit, what is called, and the results
  pub call_goes : GoesHolding w x outer most place held (core.statement (Call results f arguments) next)
  call_goes c is =
      let y = with_config x c in
      let args = values_of c.temps arguments in
      let z = record y { behind = middle + 4 } in
      let to_slots = passes w order y outer c.memory held [] arguments place named served (omega (arith, room)) (has_first w place first jump has_both) in
      let start : Comes w (AtHolding w y outer c.memory place held) (PassedAt w y outer c.memory held [] place) =
      comes_as w _ _ (λ s a. let b = with_there w y outer c.memory place held s a in record {
        maps = b.maps;
        frame = b.frame;
        others = b.others;
        sp = b.sp;
        stands = b.stands;
        shows = b.shows;
        stack = b.stack;
        passed = tt;
        known = b.holds;
      }) in
      let jumps : Comes w (PassedAt w y outer c.memory held args middle) (Calling w f (z ∷ outer) c.memory args) =
      record { count = 1; by = calls_to w order y outer c.memory held args f middle (behind place first aligned) (has_second w place first jump has_both) } in
      let way = comes_then w _ _ _ start (comes_then w _ _ _ to_slots jumps) in
      let onward : List Content → Memory → Step = λ values m. with_results results values (with_memory m c) (next Falls) in
      let between = all_flagged false results after in
      let back : (j : ℕ) → suc j ≤ most → (values : List Content) (m : Memory) → Goes w j (onward values m) (Back w (z ∷ outer) m values)
      (active_of w (z ∷ outer)) =
      λ j less values m.
      let back_at = with_config x (with_memory m c) in
      goes_as w (Back w (z ∷ outer) m values) (active_of w (z ∷ outer)) j (onward values m)
      (ResultsAt w (keeping between back_at) outer m [] 9 values (middle + 4))
      (λ s b. fewer_with w back_at outer m (middle + 4) _ between s covers (came_back w order x outer c m values (middle + 4) s b))
      (results_go w order outer j after (next Falls) x (with_memory m c) [] results values 9 (middle + 4) flags rest
      (record { blocks = is.blocks; own = is.own }) (omega arith) named_results are has_last
      (λ d isin. fewer w _ _ most j (next Falls d) (omega (arith, less))
      (subst (λ p. Goes w most (next Falls d) (AtHolding w (with_config (keeping after x) d) outer d.memory p (holding_results 9 results []))
      (active_of w (x ∷ outer))) at_end (falls d isin)))) in
      goes_called w (AtHolding w y outer c.memory place held) (active_of w (x ∷ outer)) most (invoke f args) onward c.memory
      (Calling w f (z ∷ outer) c.memory args) way (omega arith) (λ s a. (at_any w y outer c.memory place held s a).stands.runs)
      (λ j less. bodies j less args onward c.memory (z ∷ outer) (back j less))

-- ---- a return

length_of_values : (temps : ℕ → Content) (ts : List ℕ) → length (values_of temps ts) ≡ length ts
length_of_values temps [] = refl
length_of_values temps (t ∷ ts) = ap suc (length_of_values temps ts)

-- no slot has to show a word any more
returning_bare : (w : World) (x : Waiting) (outer : List Waiting) (mem : Memory) (values : List Content) (s : Machine) → Returning w x outer mem values s
    → Returning w (keeping [] x) outer mem values s
returning_bare w x outer mem values s a = record {
  maps = a.maps;
  frame = a.frame;
  others = a.others;
  sp = a.sp;
  pointer = a.pointer;
  above = a.above;
  stands = a.stands;
  shows = frame_fewer w a.maps (restored x) (back_of w outer) a.frame [] (covers_none x.kept) a.shows;
  stack = a.stack;
  results = a.results;
}

-- where the values of a return come back
returned : (w : World) (x : Waiting) (outer : List Waiting) (most : ℕ) (ts : List ℕ) (next : Exit → Config → Step) (held : List Holding) (place : ℕ)
    → ((c : Config) → Comes w (AtHolding w (with_config x c) outer c.memory place held) (Returning w (with_config x c) outer c.memory (values_of c.temps ts)))
    → GoesReturning w (keeping [] x) outer most next → GoesHolding w x outer most place held (core.statement (Return ts) next)
returned w x outer most ts next held place comes goes c is =
    let values = values_of c.temps ts in
    goes_from w _ _ most (next (Returns values) c) _ (comes c)
    (goes_as w (Returning w (with_config x c) outer c.memory values) (active_of w (x ∷ outer)) most (next (Returns values) c)
    (Returning w (with_config (keeping [] x) c) outer c.memory values)
    (λ s a. returning_bare w (with_config x c) outer c.memory values s a) (goes c values is))

pub return_goes : (w : World) (order : IsInOrder w) (x : Waiting) (outer : List Waiting) (most : ℕ) (ts : List ℕ) (next : Exit → Config → Step)
    (held : List Holding) (place : ℕ) → EndsThere w x.function x.fn → x.phase ≡ Inside → AreBelow x.fn.temporaries ts
    → AreKept w x (loads_of_values held 9 ts) → length ts ≤ 8 → Has w place (return_code x.fn.passed held ts (w.exits x.function))
    → GoesReturning w (keeping [] x) outer most next → GoesHolding w x outer most place held (core.statement (Return ts) next)
return_goes w order x outer most ts next held place ends inside named served few has =
    returned w x outer most ts next held place (λ c.
    returns w order (with_config x c) outer c.memory held ts place ends inside named served few
    (let e = length_of_values c.temps ts in omega (arith, e, few)) has)

-- one behind whose values the function ends
pub return_last_goes : (w : World) (order : IsInOrder w) (x : Waiting) (outer : List Waiting) (most : ℕ) (ts : List ℕ) (next : Exit → Config → Step)
    (held : List Holding) (place : ℕ) → EndsThere w x.function x.fn → x.phase ≡ Inside → AreBelow x.fn.temporaries ts
    → AreKept w x (loads_of_values held 9 ts) → length ts ≤ 8 → Has w place (values_code x.fn.passed held 9 ts ++ (Label (w.exits x.function) ∷ []))
    → GoesReturning w (keeping [] x) outer most next → GoesHolding w x outer most place held (core.statement (Return ts) next)
return_last_goes w order x outer most ts next held place ends inside named served few has =
    returned w x outer most ts next held place (λ c. returns_last w order (with_config x c) outer c.memory held ts place ends inside named served few
    (let e = length_of_values c.temps ts in omega (arith, e, few)) has)

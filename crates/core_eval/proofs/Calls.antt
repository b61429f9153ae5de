-- A call begins, and a program.
use Rattle.std.specs.Prelude.{if◌then◌else◌, slice_get, slice_index_or, nat_eq}
use Rattle.std.proofs.Common.{◌≡◌, ◌≢◌, ℕ, zero, suc, ◌+◌, ◌<◌, ◌≤◌, true, false, Option, Some, None, List, [], ◌∷◌, length, map, refl, ap, ◌∙◌, sym, subst}
use Rattle.std.proofs.Common.{arith}
use Rattle.std.proofs.lemmas.Bool.Decides.{nat_tests}
use Rattle.std.proofs.lemmas.List.{length-map}
use Rattle.step_trees.specs.Trees as trees
use Rattle.core_meaning.specs.Memory as memory
use Rattle.core_meaning.specs.Memory.{Region, Frame, Own, Born, Live, Dead, is_live, same_region, Memory, Content, with_standing}
use Rattle.core_meaning.specs.Core.{Function}
use Rattle.core_meaning.specs.Steps.{Config, Called, Step, checked}
use Rattle.core_meaning.specs.Meaning.{with_objects, entered, called, body_of, first_memory, status_of, start}
use Rattle.cyc_core.specs.declared.program.Function as code
use Rattle.cyc_core.specs.declared.program.Program as code_program
use Rattle.cyc_core.specs.declared.layout.Local as local_code
use Rattle.cyc_core.specs.Trees.{local_tree, function_tree, datum_tree, body_tree, program_tree}
use Rattle.core_eval.specs.declared.value.Value.{Value}
use Rattle.core_eval.specs.Values.{content_of, Shows}
use Rattle.core_eval.specs.Elements.{blank_object, first_object}
use Rattle.core_eval.specs.declared.value.Slot.{Slot}
use Rattle.core_eval.specs.Regions.{Regions}
use Rattle.core_eval.specs.LongBlocks.{LongBlock}
use Rattle.core_eval.specs.Blocks.{position_of}
use Rattle.core_eval.specs.Pendings.{Follow, Wait, Caller, Go, Wrong, Mark, rest_of, coming, returned_to}
use Rattle.core_eval.specs.Standing.{Known, IsFresh, Agrees, AreBorn, Stands, IsCall, first_known}
use Rattle.core_eval.proofs.Memories.{other_number, shows_standing, shows_objects}
use Rattle.core_eval.proofs.Globals.{first_part}
use Rattle.core_eval.proofs.BlockMoves.{
  objects_other,
  parts_other,
  activations_same,
  calls_same,
  standing_same,
  all_shown,
  objects_keep,
  not_first,
  not_later,
}
use Rattle.core_eval.proofs.Owned.{owned_still}
use Rattle.core_eval.proofs.Born.{born_kept}
use Rattle.core_eval.proofs.Nested.{nested_still}
use Rattle.core_eval.proofs.Moves.{goes_here}
use Rattle.core_meaning.proofs.Spots.{region_self}

-- ---- the functions of a program

pub function_at : (fs : List code.Function) (k : ℕ) (f : code.Function) → k < length fs → f ≡ slice_index_or fs k f → slice_get (map function_tree fs) k
    ≡ Some (function_tree f)
function_at [] k f h e = absurd (omega (arith, h))
function_at (g ∷ fs) zero f h e = ap (λ f. Some (function_tree f)) (sym e)
function_at (g ∷ fs) (suc k) f h e = function_at fs k f (omega (arith, h)) e

pub no_function : (fs : List code.Function) (k : ℕ) → length fs ≤ k → slice_get (map function_tree fs) k ≡ None
no_function [] k h = refl
no_function (g ∷ fs) zero h = absurd (omega (arith, h))
no_function (g ∷ fs) (suc k) h = no_function fs k (omega (arith, h))

-- ---- a call

-- the callee's state
abbrev callee : code.Function → List Content → Memory → Config
callee f arguments m = entered (function_tree f) arguments m

-- what a call's temporary objects change
module _ (m : Memory) (locals : List local_code.Local) where
  -- the memory in which the function is live and has no values as yet
  abbrev called_in : Memory
  called_in = record (with_standing m (Own m.calls) Live) { calls = m.calls + 1 }

  abbrev after_call : Memory
  after_call = with_objects (Own m.calls) (map local_tree locals) called_in

  shows_called : (q : Region) (objects : List (List Slot)) → same_region q (Own m.calls) ≡ false → Shows m q objects → Shows after_call q objects
  shows_called q objects other shows =
      let s = shows_standing shows (Own m.calls) other Live in
      shows_objects q (Own m.calls) objects other (map local_tree locals) called_in (record { live = s.live; holds = s.holds })

  -- nothing changes of what was born
  born_after : (globals : List (List Slot)) (regions : Regions) (long_blocks : List LongBlock) → AreBorn m globals regions long_blocks
      → AreBorn after_call globals regions long_blocks
  born_after globals regions long_blocks born =
      born_kept called_in after_call globals regions long_blocks
      (born_kept m called_in globals regions long_blocks born (record { births = refl; standing = λ d. refl; objects = λ d. refl; parts = λ d i k j. refl }))
      (objects_keep (Own m.calls) (map local_tree locals) called_in (λ d. refl))

module _ (known : Known) (ws : List Wait) (marks : List Mark) (temps : List Value) (locals : List local_code.Local) where
  -- a caller, and then a function that was called from it
  values_begin : (c : Config) → IsFresh c.memory → (objects' : List (List Slot)) → objects' ≡ map blank_object locals
      → Shows (after_call c.memory locals) (Own c.memory.calls) objects'
  values_begin c fresh objects' is =
      let m = c.memory in
      subst (λ (os : List (List Slot)). Shows (after_call m locals) (Own m.calls) os) (sym is)
      (all_shown (Own m.calls) locals (called_in m locals) []
      (record {
        live = ap (λ b. is_live (if b then Live else m.standing (Own m.calls))) (region_self (Own m.calls));
        holds = λ i k j. fresh.no_value m.calls i k j (omega arith);
      })
      (fresh.no_values m.calls (omega arith)))

  fresh_after : (c : Config) → IsFresh c.memory → IsFresh (after_call c.memory locals)
  fresh_after c fresh =
      let m = c.memory in
      let m' = after_call m locals in
      let r = Own m.calls in
      let ls = map local_tree locals in
      let calls : m'.calls ≡ m.calls + 1 = calls_same r ls (called_in m locals) in
      let activations : m'.activations ≡ m.activations = activations_same r ls (called_in m locals) in
      record {
        empty = λ k le. objects_other (Frame k) r refl ls (called_in m locals) ∙ fresh.empty k (omega (arith, le, activations));
        missing = λ k i cell j le.
            parts_other (Frame k) r refl i cell j ls (called_in m locals) ∙ fresh.missing k i cell j (omega (arith, le, activations));
        no_values = λ k le.
            objects_other (Own k) r (other_number k m.calls (omega (arith, le, calls))) ls (called_in m locals)
            ∙ fresh.no_values k (omega (arith, le, calls));
        no_value = λ k i cell j le.
            parts_other (Own k) r (other_number k m.calls (omega (arith, le, calls))) i cell j ls (called_in m locals)
            ∙ fresh.no_value k i cell j (omega (arith, le, calls));
      }

module _ (functions : List code.Function) (results : List ℕ) (n : ℕ) (arguments : List Value) (known : Known) (ws : List Wait) where
  -- what is known in the callee
  abbrev pub in_callee : List local_code.Local → Known
  in_callee locals = record known {
    temps = arguments;
    base = length known.blocks;
    owns = record { number = known.called; objects = map blank_object locals } ∷ known.owns;
    called = known.called + 1;
  }

  -- how the caller waits
  abbrev pub for_callee : List Wait
  for_callee = Caller results n (record { temps = known.temps; base = known.base }) ∷ ws

  callee_agrees : (f : code.Function) (marks : List Mark) (c : Config) → Agrees known ws marks c
      → Agrees (in_callee f.own.items) for_callee (record { number = c.memory.calls; outside = c } ∷ marks) (callee f (map content_of arguments) c.memory)
  callee_agrees f marks c h =
      let m = c.memory in
      let locals = f.own.items in
      let m' = after_call m locals in
      let r = Own m.calls in
      let ls = map local_tree locals in
      let calls : m'.calls ≡ m.calls + 1 = calls_same r ls (called_in m locals) in
      let activations : m'.activations ≡ m.activations = activations_same r ls (called_in m locals) in
      record {
        temps = λ k. refl;
        fresh = fresh_after known ws marks arguments locals c h.fresh;
        globals = shows_called m locals (Born 0) known.globals refl h.globals;
        nested = (
          refl,
          refl,
          h.temps,
          nested_still m m' m.activations m'.activations c.blocks known.base known.blocks ws marks (omega (arith, activations))
              (λ k os below s. shows_called m locals (Frame k) os refl s) h.nested,
        );
        entered = h.entered ∙ sym activations;
        live = λ k gone. ap is_live (standing_same r ls (called_in m locals) (Frame k)) ∙ h.live k gone;
        owned = (
          refl,
          sym h.called,
          omega (arith, calls),
          values_begin known ws marks arguments locals c h.fresh (map blank_object locals) refl,
          owned_still m m' m.calls m.calls c.own known.owns ws marks (omega arith)
              (λ k os below s. shows_called m locals (Own k) os (other_number k m.calls (omega (arith, below))) s) h.owned,
        );
        called = ap (λ x. x + 1) h.called ∙ sym calls;
        values_live = λ k gone.
            let other : nat_eq known.called k ≡ false = not_first known.called k (position_of known.owns k) gone in
            let apart : nat_eq k m.calls ≡ false = let e = h.called in grind (arith, nat_tests, other, e) in
            ap is_live (standing_same r ls (called_in m locals) (Own k) ∙ ap (λ b. if b then Live else m.standing (Own k)) apart)
            ∙ h.values_live k (not_later known.called k (position_of known.owns k) gone);
        born = born_after m locals known.globals known.regions known.long_blocks h.born;
      }

  abbrev call_step : Config → ℕ → List Mark → Option Function → Step
  call_step c main marks f = body_of f n (map content_of arguments) (returned_to results c (rest_of main ws marks)) c.memory

  entered_step : (f : code.Function) (main : ℕ) (marks : List Mark) (c : Config) → nat_eq (length (map content_of arguments)) f.parameters ≡ true
      → slice_get (map function_tree functions) n ≡ Some (function_tree f)
      → called (map function_tree functions) (record { function = n; arguments = map content_of arguments })
      (returned_to results c (rest_of main ws marks)) c.memory
      ≡ trees.Says (Called n) (coming (Go (Follow (body_tree f.body.items)))
      (rest_of main for_callee (record { number = c.memory.calls; outside = c } ∷ marks)) (callee f (map content_of arguments) c.memory))
  entered_step f main marks c fits at =
      ap (call_step c main marks) at
      ∙ ap (λ b. checked b (trees.Says (Called n) (coming (Go (Follow (body_tree f.body.items)))
      (rest_of main for_callee (record { number = c.memory.calls; outside = c } ∷ marks)) (callee f (map content_of arguments) c.memory)))) fits

  pub call_enters : (f : code.Function) → slice_get (map function_tree functions) n ≡ Some (function_tree f) → f.parameters ≡ length arguments
      → IsCall (map function_tree functions) results n (map content_of arguments) ws known (Go (Follow (body_tree f.body.items))) for_callee
      (in_callee f.own.items)
  call_enters f at fits = λ main marks c h. record {
    said = Called n ∷ [];
    silent = (tt, tt);
    marks = record { number = c.memory.calls; outside = c } ∷ marks;
    config = callee f (map content_of arguments) c.memory;
    agrees = callee_agrees f marks c h;
    same = entered_step f main marks c (let e = length-map arguments content_of in grind (arith, nat_tests, e, fits)) at;
  }

  pub call_missing : slice_get (map function_tree functions) n ≡ None
      → IsCall (map function_tree functions) results n (map content_of arguments) ws known Wrong ws known
  call_missing past = λ main marks c h. goes_here main marks c _ Wrong ws known h (ap (call_step c main marks) past)

  pub call_unfit : (f : code.Function) → slice_get (map function_tree functions) n ≡ Some (function_tree f) → f.parameters ≢ length arguments
      → IsCall (map function_tree functions) results n (map content_of arguments) ws known Wrong ws known
  call_unfit f at unfit = λ main marks c h.
      let no : nat_eq (length (map content_of arguments)) f.parameters
      ≡ false = let e = length-map arguments content_of in grind (arith, nat_tests, e, unfit) in
      goes_here main marks c _ Wrong ws known h
      (ap (call_step c main marks) at
      ∙ ap (λ b. checked b (trees.Says (Called n) (coming (Go (Follow (body_tree f.body.items)))
      (rest_of main for_callee (record { number = c.memory.calls; outside = c } ∷ marks)) (callee f (map content_of arguments) c.memory)))) no)

-- ---- a program

module _ (p : code_program.Program) where
  abbrev begin_memory : Memory
  begin_memory = first_memory (map datum_tree p.globals.items)

  -- the state in which `main` begins with these temporary objects
  abbrev begun_config : List local_code.Local → Config
  begun_config locals = record { temps = λ k. memory.Blank; blocks = []; own = 0; memory = after_call begin_memory locals }

  main_agrees : (locals : List local_code.Local) → Agrees (first_known p.globals.items locals) [] [] (begun_config locals)
  main_agrees locals =
      let first : Config = record { temps = λ k. memory.Blank; blocks = []; own = 0; memory = begin_memory } in
      let fresh : IsFresh begin_memory = record {
        empty = λ k le. refl;
        missing = λ k i cell j le. refl;
        no_values = λ k le. refl;
        no_value = λ k i cell j le. refl;
      } in
      let ls = map local_tree locals in
      let calls : (after_call begin_memory locals).calls ≡ 1 = calls_same (Own 0) ls (called_in begin_memory locals) in
      record {
        temps = λ k. refl;
        fresh = fresh_after (first_known p.globals.items locals) [] [] [] locals first fresh;
        globals = shows_called begin_memory locals (Born 0) (map first_object p.globals.items) refl
            (record { live = refl; holds = first_part p.globals.items });
        nested = (refl, refl, refl);
        entered = sym (activations_same (Own 0) ls (called_in begin_memory locals));
        live = λ k gone. ap is_live (standing_same (Own 0) ls (called_in begin_memory locals) (Frame k));
        owned = (
          record { number = 0; objects = map blank_object locals },
          refl,
          refl,
          refl,
          omega (arith, calls),
          values_begin (first_known p.globals.items locals) [] [] [] locals first fresh (map blank_object locals) refl,
        );
        called = sym calls;
        values_live = λ k gone.
            let other : nat_eq 0 k ≡ false = not_first 0 k None gone in
            let apart : nat_eq k 0 ≡ false = grind (arith, nat_tests, other) in
            ap is_live (standing_same (Own 0) ls (called_in begin_memory locals) (Own k) ∙ ap (λ b. if b then Live else Dead) apart);
        born = born_after begin_memory locals (map first_object p.globals.items) [] [] (record {
          births = refl;
          lexical = refl;
          heap = length-map p.globals.items datum_tree ∙ sym (length-map p.globals.items first_object);
          each = λ n. refl;
          empty = λ n le. refl;
          missing = λ n i cell j le. refl;
          kept = λ n i k byte far. refl;
        });
      }

  abbrev main_config : code.Function → Config
  main_config f = callee f [] begin_memory

  abbrev start_step : Option Function → Step
  start_step f = body_of f p.main [] status_of (first_memory (map datum_tree p.globals.items))

  abbrev main_step : (f : code.Function) → Step
  main_step f = trees.Says (Called p.main) (coming (Go (Follow (body_tree f.body.items))) (rest_of p.main [] []) (main_config f))

  pub starts : (f : code.Function) → slice_get (map function_tree p.functions.items) p.main ≡ Some (function_tree f) → f.parameters ≡ 0
      → Stands p.main (start (program_tree p)) (Go (Follow (body_tree f.body.items))) [] (first_known p.globals.items f.own.items)
  starts f at none = record {
    said = Called p.main ∷ [];
    silent = (tt, tt);
    marks = [];
    config = main_config f;
    agrees = main_agrees f.own.items;
    same = ap start_step at
        ∙ ap (λ b. checked b (main_step f)) (let e : nat_eq 0 f.parameters ≡ true = grind (arith, nat_tests, none) in e);
  }

  pub starts_nowhere : slice_get (map function_tree p.functions.items) p.main ≡ None
      → Stands p.main (start (program_tree p)) Wrong [] (first_known p.globals.items [])
  starts_nowhere past =
      goes_here p.main [] (begun_config []) _ Wrong [] (first_known p.globals.items []) (main_agrees []) (ap start_step past)

  pub starts_unfit : (f : code.Function) → slice_get (map function_tree p.functions.items) p.main ≡ Some (function_tree f) → f.parameters ≢ 0
      → Stands p.main (start (program_tree p)) Wrong [] (first_known p.globals.items [])
  starts_unfit f at some =
      goes_here p.main [] (begun_config []) _ Wrong [] (first_known p.globals.items []) (main_agrees [])
      (ap start_step at
      ∙ ap (λ b. checked b (main_step f)) (let e : nat_eq 0 f.parameters ≡ false = grind (arith, nat_tests, some) in e))

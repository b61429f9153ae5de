-- What is known of a call, said in another way.
use Rattle.std.proofs.Common.{◌≡◌, ℕ, ◌+◌, List, [], ◌∷◌, length, map, ap, sym, subst}
use Rattle.core_meaning.specs.Memory.{Content}
use Rattle.core_meaning.specs.Core.{Function}
use Rattle.core_meaning.specs.Steps.{Step}
use Rattle.core_meaning.specs.Meaning.{called}
use Rattle.cyc_core.specs.declared.layout.Local as local_code
use Rattle.core_eval.specs.declared.value.Value.{Value}
use Rattle.core_eval.specs.Elements.{blank_object, cells_of}
use Rattle.core_eval.specs.declared.frame.Frame as frame_code
use Rattle.core_eval.specs.declared.memory.Memory as memory_code
use Rattle.core_eval.specs.Regions.{regions_of}
use Rattle.core_eval.specs.LongBlocks.{long_block_of}
use Rattle.core_eval.specs.Blocks.{activation_of}
use Rattle.core_eval.specs.Pendings.{Wait, Next, rest_of, returned_to}
use Rattle.core_eval.specs.Standing.{Known, Stands, IsCall, known_of}
use Rattle.core_eval.proofs.Known.{known_same}

pub call_as : (functions : List Function) (results : List ℕ) (n : ℕ) (arguments : List Content) (ws : List Wait) (known : Known) (next next' : Next)
    (rest rest' : List Wait)
    (after after' : Known) → next' ≡ next → rest' ≡ rest → after' ≡ after → IsCall functions results n arguments ws known next rest after
    → IsCall functions results n arguments ws known next' rest' after'
call_as functions results n arguments ws known next next' rest rest' after after' is same knows h = λ main marks c agrees.
    let step : Step = called functions (record { function = n; arguments = arguments }) (returned_to results c (rest_of main ws marks)) c.memory in
    subst (λ (x : Next). Stands main step x rest' after') (sym is)
    (subst (λ (l : List Wait). Stands main step next l after') (sym same)
    (subst (λ (k : Known). Stands main step next rest k) (sym knows) (h main marks c agrees)))

pub stands_as : (main : ℕ) (s : Step) (next next' : Next) {known known' : Known} → next' ≡ next → known' ≡ known → Stands main s next [] known
    → Stands main s next' [] known'
stands_as main s next next' {known} {known'} is knows h =
    subst (λ (x : Next). Stands main s x [] known') (sym is) (subst (λ (k : Known). Stands main s next [] k) (sym knows) h)

-- what is known in a callee
pub called_known : (f : frame_code.Frame) (m m' : memory_code.Memory) (g : frame_code.Frame) (arguments : List Value) (locals : List local_code.Local)
    → g.temps.items ≡ arguments → g.base ≡ length (map activation_of m.blocks.items)
    → m'.blocks ≡ m.blocks → m'.entered ≡ m.entered
    → map activation_of m'.owns.items ≡ record { number = m.called; objects = map blank_object locals } ∷ map activation_of m.owns.items
    → m'.called ≡ m.called + 1 → m'.globals ≡ m.globals → m'.regions ≡ m.regions → m'.long_blocks ≡ m.long_blocks
    → known_of g m' ≡ record (known_of f m) {
      temps = arguments;
      base = length (map activation_of m.blocks.items);
      owns = record { number = m.called; objects = map blank_object locals } ∷ map activation_of m.owns.items;
      called = m.called + 1;
    }
called_known f m m' g arguments locals temps base blocks entered owns called globals regions long_blocks =
    known_same (known_of g m') _ temps base (ap (λ bs. map activation_of bs.items) blocks) entered owns called (ap (λ gs. map cells_of gs.items) globals)
    (ap regions_of regions) (ap (λ bs. map long_block_of bs.items) long_blocks)

-- From what holds of each state that is known so to a move.
use Rattle.std.proofs.Common.{◌≡◌, ℕ, List, [], ◌∷◌, ◌++◌, refl, ap, ◌∙◌, arith}
use Rattle.cyc_words.specs.Events as events
use Rattle.step_trees.specs.Trees.{Says}
use Rattle.core_meaning.specs.Core.{Operation, Do}
use Rattle.core_meaning.specs.Steps as steps
use Rattle.core_meaning.specs.Steps.{Config, Event, Visible, Exit, Step, stuck}
use Rattle.core_meaning.specs.Operations.{does, says}
use Rattle.core_eval.specs.Pendings.{Execute, Leave, Wait, Next, Go, Wrong, Mark, rest_of, coming}
use Rattle.core_eval.specs.Standing.{Known, Agrees, saying, IsSilent, AreAllSilent, Stands, StandsStill}
use Rattle.core_eval.specs.Costs.{IsMove}

pub saying_both : (first second : List Event) (s : Step) → saying first (saying second s) ≡ saying (first ++ second) s
saying_both [] second s = refl
saying_both (e ∷ first) second s = ap (λ t. Says e t) (saying_both first second s)

pub silent_both : (first second : List Event) → AreAllSilent first → AreAllSilent second → AreAllSilent (first ++ second)
silent_both [] second h k = k
silent_both (e ∷ first) second h k = (h.0, silent_both first second h.1 k)

-- each state that is known so goes on as one that is known thus
abbrev pub AllGo : Next → List Wait → Known → Next → List Wait → Known → Type 0
AllGo next ws known next' ws' known' =
    (main : ℕ) (marks : List Mark) (c : Config) → Agrees known ws marks c → Stands main (coming next (rest_of main ws marks) c) next' ws' known'

pub all_stand : (next : Next) (ws : List Wait) (known : Known) (next' : Next) (ws' : List Wait) (known' : Known) → AllGo next ws known next' ws' known'
    → StandsStill next ws known next' ws' known'
all_stand next ws known next' ws' known' go main s st =
    let g = go main st.marks st.config st.agrees in
    record {
      said = st.said ++ g.said;
      silent = silent_both st.said g.said st.silent g.silent;
      marks = g.marks;
      config = g.config;
      agrees = g.agrees;
      same = st.same ∙ ap (saying st.said) g.same ∙ saying_both st.said g.said (coming next' (rest_of main ws' g.marks) g.config);
    }

-- the same state, which goes on alike
pub goes_here : (main : ℕ) (marks : List Mark) (c : Config) (s : Step) (next : Next) (ws : List Wait) (known : Known) → Agrees known ws marks c
    → s ≡ coming next (rest_of main ws marks) c → Stands main s next ws known
goes_here main marks c s next ws known agrees same = record { said = []; silent = tt; marks = marks; config = c; agrees = agrees; same = same }

-- ---- operations

-- an operation does this to each state that is known so
abbrev pub Becomes : Operation → List Wait → Known → ((Config → Step) → Config → Step) → Type 0
Becomes o ws known after = (marks : List Mark) (c : Config) → Agrees known ws marks c → (next : Config → Step) → does o next c ≡ after next c

-- another state, and the statement is over
pub becomes : (o : Operation) (ws : List Wait) (known known' : Known) (change : Config → Config) → Becomes o ws known (λ next c. next (change c))
    → ((marks : List Mark) (c : Config) → Agrees known ws marks c → Agrees known' ws marks (change c))
    → IsMove (Execute (Do o)) ws known (Go (Leave steps.Falls)) ws known'
becomes o ws known known' change does_so agrees = record {
  still = all_stand _ ws known _ ws known' (λ main marks c h. goes_here main marks (change c) _ _ ws known' (agrees marks c h)
      (does_so marks c h (rest_of main ws marks steps.Falls)));
  fewer = omega arith;
}

-- the same, with something said before
pub becomes_saying : (o : Operation) (ws : List Wait) (known known' : Known) (event : Config → events.Event) (change : Config → Config)
    → ((c : Config) → IsSilent (Visible (event c))) → Becomes o ws known (λ next c. says (event c) (next (change c)))
    → ((marks : List Mark) (c : Config) → Agrees known ws marks c → Agrees known' ws marks (change c))
    → IsMove (Execute (Do o)) ws known (Go (Leave steps.Falls)) ws known'
becomes_saying o ws known known' event change silent does_so agrees = record {
  still = all_stand _ ws known _ ws known' (λ main marks c h. record {
    said = Visible (event c) ∷ [];
    silent = (silent c, tt);
    marks = marks;
    config = change c;
    agrees = agrees marks c h;
    same = does_so marks c h (rest_of main ws marks steps.Falls);
  });
  fewer = omega arith;
}

-- out of order
pub goes_wrong : (o : Operation) (ws : List Wait) (known : Known) → Becomes o ws known (λ next c. stuck) → IsMove (Execute (Do o)) ws known Wrong ws known
goes_wrong o ws known does_so = record {
  still = all_stand _ ws known _ ws known (λ main marks c h. goes_here main marks c _ _ ws known h (does_so marks c h (rest_of main ws marks steps.Falls)));
  fewer = omega arith;
}

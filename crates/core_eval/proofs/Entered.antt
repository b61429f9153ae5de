-- From what the entry of a block, and of a body that a break ends, answers to a move.
use Rattle.std.proofs.Common.{◌≡◌, ◌+◌, List, ◌∷◌, map, Result, Ok, Err, IfOk, OnOk, refl, ap, ◌∙◌, sym, subst}
use Rattle.core_meaning.specs.Core as core
use Rattle.core_meaning.specs.Core.{Statements}
use Rattle.cyc_core.specs.declared.layout.Local.{Local}
use Rattle.cyc_core.specs.Trees.{local_tree}
use Rattle.core_eval.specs.declared.frame.Frame.{Frame}
use Rattle.core_eval.specs.declared.memory.Memory.{Memory}
use Rattle.core_eval.specs.declared.pending.Due.{Due}
use Rattle.core_eval.specs.Elements.{blank_object, cells_of}
use Rattle.core_eval.specs.Regions.{regions_of}
use Rattle.core_eval.specs.LongBlocks.{long_block_of}
use Rattle.core_eval.specs.Blocks.{activation_of}
use Rattle.core_eval.specs.Pendings as specs
use Rattle.core_eval.specs.Pendings.{Execute, Follow, Wait, Block, Breakable, Go, next_of}
use Rattle.core_eval.specs.Standing as standing
use Rattle.core_eval.specs.Standing.{known_of}
use Rattle.core_eval.specs.Costs.{IsMove}
use Rattle.core_eval.proofs.Known.{known_same}
use Rattle.core_eval.proofs.EnterMoves.{breakable_enters}
use Rattle.core_eval.proofs.BlockMoves.{inside, block_enters}

pub block_answer : {E : Type 0} (r : Result Due E) (f : Frame) (m m' : Memory) (s : core.Statement) (locals locals' : List Local)
    (body body' : Statements) (ws ws' : List Wait)
    → s ≡ core.Block (map local_tree locals) body → locals' ≡ locals → body' ≡ body
    → IfOk r (λ due. next_of due ≡ Go (Follow body')) → OnOk r (ws' ≡ Block ∷ ws)
    → OnOk r (map activation_of m'.blocks.items ≡ record { number = m.entered; objects = map blank_object locals' } ∷ map activation_of m.blocks.items)
    → OnOk r (m'.entered ≡ m.entered + 1) → OnOk r (m'.owns ≡ m.owns) → OnOk r (m'.called ≡ m.called) → OnOk r (m'.globals ≡ m.globals)
    → OnOk r (m'.regions ≡ m.regions) → OnOk r (m'.long_blocks ≡ m.long_blocks)
    → IfOk r (λ due. IsMove (Execute s) ws (known_of f m) (next_of due) ws' (known_of f m'))
block_answer (Ok due) f m m' s locals locals' body body' ws ws' is same_locals same_body next waits blocks entered owns called globals regions long_blocks =
    let all : map activation_of m'.blocks.items ≡ record { number = m.entered; objects = map blank_object locals } ∷ map activation_of m.blocks.items =
    blocks ∙ ap (λ l. record { number = m.entered; objects = map blank_object l } ∷ map activation_of m.blocks.items) same_locals in
    let known : known_of f m' ≡ inside (known_of f m) ws locals =
    known_same (known_of f m') (inside (known_of f m) ws locals) refl refl all entered (ap (λ os. map activation_of os.items) owns) called
    (ap (λ gs. map cells_of gs.items) globals) (ap regions_of regions)
    (ap (λ bs. map long_block_of bs.items) long_blocks) in
    subst (λ (t : core.Statement). IsMove (Execute t) ws (known_of f m) (next_of due) ws' (known_of f m')) (sym is)
    (subst (λ (n : specs.Next). IsMove (Execute (core.Block (map local_tree locals) body)) ws (known_of f m) n ws' (known_of f m'))
    (sym (next ∙ ap (λ b. Go (Follow b)) same_body))
    (subst (λ (l : List Wait). IsMove (Execute (core.Block (map local_tree locals) body)) ws (known_of f m) (Go (Follow body)) l (known_of f m'))
    (sym waits)
    (subst (λ (k : standing.Known). IsMove (Execute (core.Block (map local_tree locals) body)) ws (known_of f m) (Go (Follow body)) (Block ∷ ws) k)
    (sym known)
    (block_enters (known_of f m) ws locals body))))
block_answer (Err e) f m m' s locals locals' body body' ws ws' is same_locals same_body next waits blocks entered owns called globals regions long_blocks = tt

-- ---- a body that a break ends

pub breakable_answer : {E : Type 0} (r : Result Due E) (known : standing.Known) (s : core.Statement) (body body' : Statements) (ws ws' : List Wait)
    → s ≡ core.Leave body → body' ≡ body → IfOk r (λ due. next_of due ≡ Go (Follow body')) → OnOk r (ws' ≡ Breakable ∷ ws)
    → IfOk r (λ due. IsMove (Execute s) ws known (next_of due) ws' known)
breakable_answer (Ok due) known s body body' ws ws' is same_body next waits =
    subst (λ (t : core.Statement). IsMove (Execute t) ws known (next_of due) ws' known) (sym is)
    (subst (λ (n : specs.Next). IsMove (Execute (core.Leave body)) ws known n ws' known) (sym (next ∙ ap (λ b. Go (Follow b)) same_body))
    (subst (λ (l : List Wait). IsMove (Execute (core.Leave body)) ws known (Go (Follow body)) l known) (sym waits) (breakable_enters known ws body)))
breakable_answer (Err e) known s body body' ws ws' is same_body next waits = tt

use Rattle.std.proofs.Common.{rules, subst, arith, ◌≡◌}
use Rattle.std.proofs.lemmas.Grind.{common_steps}
use Rattle.std.specs.Prelude.{Some}
use Rattle.arena_laws.specs.Laws.{loaded}
use Rattle.cyc_arena.specs.Plain.{byte_at, holdings_of}
use Rattle.cyc_arena.proofs.Bytes.{load_in}
use Rattle.cyc_arena.proofs.plain.PlainStoreBlockStore.load8.Goals as goal

pub returns-then-place-len : goal.returns-then-place-len
returns-then-place-len c =
    subst (λ m. Some c.index.result.now ≡ loaded c.args.at (holdings_of m) (byte_at m.bytes)) c.self.view_is
    (load_in _ _ _ c.self.invariant (search rules) (search rules) (grind (arith, common_steps)))

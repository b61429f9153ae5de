use Rattle.std.specs.List.{All}
use Rattle.language_server.specs.Messages.{IsNotification}
use Rattle.language_server.proofs.notes.notifications.Given as goal

abbrev pub invariant-loop-params : goal.invariant-loop-params
invariant-loop-params l = All IsNotification l.messages.items

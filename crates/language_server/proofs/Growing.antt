-- One notification more.
use Rattle.std.proofs.Common.{List, [], ◌∷◌, ◌++◌}
use Rattle.std.specs.List.{All}
use Rattle.std.proofs.lemmas.List.Elements.{All-push}
use Rattle.editor_protocol.specs.declared.messages.Message.{Message}
use Rattle.language_server.specs.Messages.{IsNotification}

pub one_more : (messages : List Message) (message : Message) → All IsNotification messages → IsNotification message
    → All IsNotification (messages ++ message ∷ [])
one_more messages message all is = All-push IsNotification messages message all is

-- Believed: messages by what they are.
use Rattle.editor_protocol.specs.declared.messages.Message.{Message}
use Rattle.editor_protocol.specs.declared.messages.Message.TheVariants.{Response, Notification}

abbrev pub IsNotification : Message → Type 0
IsNotification (Response id outcome) = ⊥
IsNotification (Notification method params) = Unit {0}

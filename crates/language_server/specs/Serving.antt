-- Believed: what a message is answered.
use Rattle.std.specs.Prelude.{◌≡◌, ℕ, List, [], ◌∷◌, Result, Ok, Err, All}
use Rattle.serde_json.specs.Data.{Data, null}
use Rattle.serde_json.specs.View.{view}
use Rattle.editor_protocol.specs.Kinds.{Kind, request, notification, invalid, IsReadAs}
use Rattle.editor_protocol.specs.declared.messages.Code.{Code}
use Rattle.editor_protocol.specs.declared.messages.Outcome.{Outcome}
use Rattle.editor_protocol.specs.declared.messages.Outcome.TheVariants.{Refused}
use Rattle.editor_protocol.specs.declared.messages.Message.{Message}
use Rattle.editor_protocol.specs.declared.messages.Message.TheVariants.{Response, Notification}
use Rattle.editor_features.specs.declared.method.Method.{Method}
use Rattle.language_server.specs.declared.methods.Phase.{Phase}
use Rattle.language_server.specs.declared.methods.Phase.TheVariants.{Fresh, Ready, Shut, Ended}
use Rattle.language_server.specs.declared.server.Server.{Server}
use Rattle.language_server.specs.Messages.{IsNotification}
use Rattle.language_server.specs.Methods.{methods, find_method, admission, phase_behind, phase_told}

-- a request that may not be made is refused with this code
abbrev pub IsOutcome : Result Method Code → Outcome → Type 0
IsOutcome (Ok method) outcome = Unit {0}
IsOutcome (Err code) outcome = outcome ≡ Refused code

-- one response, with this id, and nothing else
abbrev pub IsResponse : Result Method Code → Data → List Message → Type 0
IsResponse admitted id [] = ⊥
IsResponse admitted id (Response found outcome ∷ []) = (view found ≡ id) × IsOutcome admitted outcome
IsResponse admitted id (Response found outcome ∷ next ∷ rest) = ⊥
IsResponse admitted id (Notification name params ∷ rest) = ⊥

-- one error without an id, and nothing else
abbrev pub IsRefusal : Code → List Message → Type 0
IsRefusal code [] = ⊥
IsRefusal code (Response found outcome ∷ []) = (view found ≡ null) × (outcome ≡ Refused code)
IsRefusal code (Response found outcome ∷ next ∷ rest) = ⊥
IsRefusal code (Notification name params ∷ rest) = ⊥

-- a request gets one response, changes no text, and changes the phase where it may be made
abbrev pub IsRequested : Result Method Code → Data → Server → Server → List Message → Type 0
IsRequested admitted id old new messages =
    IsResponse admitted id messages × (new.texts ≡ old.texts) × (new.phase ≡ phase_behind old.phase admitted)

-- a notification gets no response, and does nothing to texts where the server isn't initialized
abbrev pub IsTold : Phase → Server → Server → List Message → Type 0
IsTold Fresh old new messages = (messages ≡ []) × (new.texts ≡ old.texts)
IsTold Ready old new messages = All IsNotification messages
IsTold Shut old new messages = (messages ≡ []) × (new.texts ≡ old.texts)
IsTold (Ended as_asked) old new messages = (messages ≡ []) × (new.texts ≡ old.texts)

-- what is neither gets one error, and changes nothing
abbrev pub Serves : Kind → Server → Server → List Message → Type 0
Serves (request id method) old new messages = IsRequested (admission old.phase (find_method methods method)) id old new messages
Serves (notification method) old new messages = IsTold old.phase old new messages × (new.phase ≡ phase_told old.phase method)
Serves (invalid code) old new messages = IsRefusal code messages × (new ≡ old)

pub record IsServed (message : List ℕ) (old new : Server) (messages : List Message) : Type 0 where
  pub kind : Kind
  pub read : IsReadAs message kind
  pub serves : Serves kind old new messages

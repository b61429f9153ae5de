-- Believed: what a message is: a request with its id, a notification, or neither.
use Rattle.std.specs.Prelude.{◌≡◌, ◌⊎◌, ℕ, List, Option, Some, None, option_and_then, codes, Bool, true, false, if◌then◌else◌, IsUtf8, string_bytes}
use Rattle.serde_json.specs.Data.{Data, null, boolean, number, string, array, object}
use Rattle.serde_json.specs.Find.{get, as_str}
use Rattle.serde_json.specs.Read.{read}
use Rattle.serde_json.specs.View.{view}
use Rattle.editor_protocol.specs.declared.messages.Code.{Code}
use Rattle.editor_protocol.specs.declared.messages.Code.TheVariants.{ParseError, InvalidRequest}
use Rattle.editor_protocol.specs.declared.incoming.Incoming.{Incoming}
use Rattle.editor_protocol.specs.declared.incoming.Incoming.TheVariants.{Request, Notification, Invalid}

pub data Kind : Type 0 where
  request : (id : Data) (method : List ℕ) → Kind
  notification : (method : List ℕ) → Kind
  invalid : (code : Code) → Kind

-- an id is a number or a string
abbrev pub is_id : Data → Bool
is_id null = false
is_id (boolean b) = false
is_id (number n) = true
is_id (string s) = true
is_id (array ds) = false
is_id (object ms) = false

abbrev pub method_in : Data → Option (List ℕ)
method_in d = option_and_then as_str (get (codes "method") d)

abbrev pub kind_by : Option (List ℕ) → Option Data → Kind
kind_by None id = invalid InvalidRequest
kind_by (Some method) None = notification method
kind_by (Some method) (Some id) = if is_id id then request id method else invalid InvalidRequest

-- what a value of JSON is: it has a method, and a request an id too
abbrev pub kind_of : Data → Kind
kind_of d = kind_by (method_in d) (get (codes "id") d)

-- what bytes are: they are no JSON, or what their value is
abbrev pub IsReadAs : List ℕ → Kind → Type 0
IsReadAs bytes kind = ((kind ≡ invalid ParseError) × (IsUtf8 bytes → read bytes ≡ None))
    ⊎ ((d : Data) × (read bytes ≡ Some d) × (kind ≡ kind_of d))

-- the kind of a message that was read
abbrev pub kind_read : Incoming → Kind
kind_read (Request id method body) = request (view id) (string_bytes method)
kind_read (Notification method body) = notification (string_bytes method)
kind_read (Invalid code) = invalid code

-- What a document of SARIF says of its run after the results: whether each input was searched, and if not, why.
use Rattle.std.specs.Prelude.{ℕ, Bool, not, ◌==◌, if◌then◌else◌, List, ◌++◌, length, codes}
use Rattle.bidi_terminal.specs.Json.{json_string}
use Rattle.bidi_terminal.specs.Uris.{uri_of}
use Rattle.bidi_reports.specs.Json.{result_start}
use Rattle.bidi_reports.specs.declared.form.Form.{Form}
use Rattle.bidi_reports.specs.declared.form.Form.TheVariants.{Quiet, Text, Json, Sarif}

-- the notification of an input of this name: why it is not searched, or is not searched as it is
unfoldable pub notification : List ℕ → List ℕ → List ℕ
notification name message =
    codes "{\"level\":\"error\",\"message\":{\"text\":"
    ++ (json_string message
    ++ (codes "},\"locations\":[{\"physicalLocation\":{\"artifactLocation\":{\"uri\":\"" ++ (uri_of name ++ codes "\"}}}]}")))

-- there are none
abbrev pub is_empty : List ℕ → Bool
is_empty notifications = length notifications == 0

-- the notifications with one more, in the forms that have them
abbrev pub with_notification : Form → List ℕ → List ℕ → List ℕ → List ℕ
with_notification Quiet notifications name message = notifications
with_notification (Text excerpts colors notes) notifications name message = notifications
with_notification Json notifications name message = notifications
with_notification Sarif notifications name message =
    notifications ++ (result_start (not (is_empty notifications)) ++ notification name message)

-- the run was a success if there are none
abbrev pub success : List ℕ → List ℕ
success notifications = if is_empty notifications then codes "true" else codes "false"

-- what is after the results
unfoldable pub invocation_start : List ℕ
invocation_start = codes "\n],\n\"invocations\":[{\"executionSuccessful\":"

unfoldable pub notifications_start : List ℕ
notifications_start = codes ",\"toolExecutionNotifications\":["

unfoldable pub sarif_foot : List ℕ → List ℕ
sarif_foot notifications =
    invocation_start ++ (success notifications ++ (notifications_start ++ (notifications ++ codes "\n]}]}]}\n")))

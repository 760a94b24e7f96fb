-- The report as JSON: a line for each finding, or one document of SARIF.
use Rattle.std.specs.Prelude.{ℕ, ◌+◌, ◌^◌, nat_lt, Bool, false, if◌then◌else◌, List, [], ◌++◌, Option, None, Some, flat_map, codes, decimal, encode_utf8}
use Rattle.bidi_controls.specs.Controls.{control_short}
use Rattle.bidi_controls.specs.Findings.{trouble_text}
use Rattle.bidi_controls.specs.declared.control.Control.{Control}
use Rattle.bidi_controls.specs.declared.finding.Finding.{Finding}
use Rattle.bidi_controls.specs.declared.finding.Trouble.{Trouble}
use Rattle.bidi_controls.specs.declared.finding.Trouble.TheVariants.{NotClosed, ClosesNothing, Present, DisplayedDifferently, LettersAlone}
use Rattle.bidi_terminal.specs.Json.{json_string}
use Rattle.bidi_terminal.specs.Uris.{uri_of}
use Rattle.bidi_reports.specs.Parts.{marked_part}
use Rattle.bidi_reports.specs.Text.{DisplayedChars}
use Rattle.bidi_reports.specs.declared.parts.Escapes.TheVariants.{HiddenAndRightToLeft}
use Rattle.unicode_bidi.specs.declared.version.TheConstants.{VERSION}
use Rattle.bidi_reports.specs.Words.{code_of, character_of, kind_of, level_of, is_about_line, help_of, help_uri_of, message_of}

-- ---- a line for each finding

abbrev pub json_place : List ℕ → Finding → List ℕ
json_place name finding =
    codes "{\"file\":" ++ (json_string name ++ (codes ",\"line\":" ++ (decimal finding.line ++ (codes ",\"column\":" ++ decimal finding.column))))

-- a member of an object after others, whose value is a string without characters to escape
unfoldable pub json_member : List ℕ → List ℕ → List ℕ
json_member key value = codes ",\"" ++ (key ++ (codes "\":\"" ++ (value ++ codes "\"")))

abbrev pub json_control : Option Control → List ℕ
json_control None = []
json_control (Some control) =
    json_member (codes "control") (control_short control)
    ++ (json_member (codes "codePoint") (code_of control) ++ json_member (codes "name") (character_of control))

abbrev pub json_kind : Finding → List ℕ
json_kind finding = json_member (codes "kind") (kind_of finding.trouble) ++ json_member (codes "message") (message_of finding)

abbrev pub json_displayed : List ℕ → Finding → List ℕ
json_displayed displayed finding =
    if is_about_line finding.trouble then codes ",\"displayed\":" ++ json_string (flat_map encode_utf8 displayed) else []

abbrev pub json_report : List ℕ → List ℕ → Finding → List ℕ
json_report name displayed finding =
    json_place name finding ++ (json_control finding.control ++ (json_kind finding ++ (json_displayed displayed finding ++ codes "}\n")))

-- ---- SARIF

-- what is found, and how the line is displayed if the finding is about that
abbrev pub result_message : DisplayedChars → Finding → List ℕ
result_message displayed finding =
    message_of finding
    ++ (if is_about_line finding.trouble
    then codes "; it is displayed as: " ++ marked_part HiddenAndRightToLeft false displayed.1 displayed.0
    else [])

unfoldable pub message_start : List ℕ
message_start = codes ",\"message\":{\"text\":"

abbrev pub result_rule : Finding → List ℕ
result_rule finding =
    codes "{\"ruleId\":\"" ++ (kind_of finding.trouble ++ (codes "\"" ++ (json_member (codes "level") (level_of finding.trouble) ++ message_start)))

-- the column after the character, if it is below 2^64
unfoldable pub result_end : ℕ → List ℕ
result_end column = if nat_lt (column + 1) (2 ^ 64) then codes ",\"endColumn\":" ++ decimal (column + 1) else []

unfoldable pub region_start : List ℕ
region_start = codes "\"},\"region\":{\"startLine\":"

unfoldable pub columns_start : List ℕ
columns_start = codes ",\"startColumn\":"

unfoldable pub result_columns : ℕ → List ℕ
result_columns column = columns_start ++ (decimal column ++ result_end column)

unfoldable pub result_region : Finding → List ℕ
result_region finding = region_start ++ (decimal finding.line ++ (result_columns finding.column ++ codes "}}}]"))

unfoldable pub locations_start : List ℕ
locations_start = codes "},\"locations\":[{\"physicalLocation\":{\"artifactLocation\":{\"uri\":\""

abbrev pub result_place : List ℕ → Finding → List ℕ
result_place name finding = locations_start ++ (uri_of name ++ result_region finding)

-- what stays the same of a finding when its line moves: the digest of the line, the kind and the column
unfoldable pub fingerprint_start : List ℕ
fingerprint_start = codes ",\"partialFingerprints\":{\"findingInLine/v1\":\""

unfoldable pub result_fingerprint : List ℕ → Finding → List ℕ
result_fingerprint digest finding =
    fingerprint_start
    ++ (digest ++ (codes "/" ++ (kind_of finding.trouble ++ (codes "/" ++ (decimal finding.column ++ codes "\"}}")))))

-- what separates a result from the ones before it
abbrev pub result_start : Bool → List ℕ
result_start later = if later then codes ",\n" else codes "\n"

-- `digest` is that of the line
abbrev pub sarif_report : Bool → List ℕ → List ℕ → DisplayedChars → Finding → List ℕ
sarif_report later name digest displayed finding =
    result_start later
    ++ (result_rule finding
    ++ (json_string (result_message displayed finding) ++ (result_place name finding ++ result_fingerprint digest finding)))

-- a rule, which each kind of finding has
unfoldable pub description_start : List ℕ
description_start = codes "\",\"shortDescription\":{\"text\":\""

abbrev pub rule_subject : Trouble → List ℕ
rule_subject LettersAlone = codes "On a line, "
rule_subject _ = codes "A direction control or mark "

unfoldable pub help_start : List ℕ
help_start = codes "\"},\"help\":{\"text\":\""

unfoldable pub help_uri_start : List ℕ
help_uri_start = codes "\"},\"helpUri\":\""

unfoldable pub rule_help : Trouble → List ℕ
rule_help trouble = help_start ++ (help_of trouble ++ (help_uri_start ++ help_uri_of trouble))

unfoldable pub rule_level : List ℕ
rule_level = codes "\",\"defaultConfiguration\":{\"level\":\""

unfoldable pub rule_start : Trouble → List ℕ
rule_start trouble = codes "\n{\"id\":\"" ++ (kind_of trouble ++ (description_start ++ (rule_subject trouble ++ trouble_text trouble)))

unfoldable pub rule_end : Trouble → List ℕ
rule_end trouble = rule_level ++ (level_of trouble ++ codes "\"}}")

unfoldable pub rule_text : Trouble → List ℕ
rule_text trouble = rule_start trouble ++ (rule_help trouble ++ rule_end trouble)

unfoldable pub next_rule : Trouble → List ℕ
next_rule trouble = codes "," ++ rule_text trouble

unfoldable pub rules_text : List ℕ
rules_text =
    rule_text DisplayedDifferently
    ++ (next_rule NotClosed ++ (next_rule ClosesNothing ++ (next_rule Present ++ next_rule LettersAlone)))

-- the version of the library and of the program
unfoldable pub version_text : ℕ × ℕ × ℕ → List ℕ
version_text version = decimal version.0 ++ (codes "." ++ (decimal version.1 ++ (codes "." ++ decimal version.2)))

-- what is before the results
unfoldable pub sarif_start : List ℕ
sarif_start =
    codes "{\"$schema\":\"https://json.schemastore.org/sarif-2.1.0.json\",\"version\":\"2.1.0\",\"runs\":[{\"columnKind\":\"unicodeCodePoints\",\n\"tool\":{\"driver\":{\"name\":\"bidi check\",\"version\":\""

unfoldable pub rules_start : List ℕ
rules_start = codes "\",\"rules\":["

unfoldable pub results_start : List ℕ
results_start = codes "]}},\n\"results\":["

unfoldable pub sarif_rules : List ℕ
sarif_rules = rules_start ++ (rules_text ++ results_start)

unfoldable pub sarif_head : List ℕ
sarif_head = sarif_start ++ (version_text VERSION ++ sarif_rules)

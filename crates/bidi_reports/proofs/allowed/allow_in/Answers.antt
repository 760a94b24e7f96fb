use Rattle.std.proofs.Common.{◌≡◌, ◌∙◌, ap, ℕ, List, None, [], false, ◌||◌, ◌&&◌, flat_map, get_or, map, nat_eq, string_bytes}
use Rattle.std.specs.BTreeMap.{get_by_text}
use Rattle.std.specs.List.{list_any}
use Rattle.std.specs.Option.{option_map_or}
use Rattle.bidi_reports.specs.AllowIndex.{allows_at, keys_of}
use Rattle.bidi_reports.specs.Allowed.{allows}
use Rattle.bidi_reports.specs.Entries.{Entry}
use Rattle.bidi_reports.proofs.IndexLemmas.{any-found, used-found}
use Rattle.bidi_reports.proofs.allowed.allow_in.Goals as goal

no_entry : Entry
no_entry = record { number = 0; parts = []; line = None; digest = None; kinds = None }

pub returns-clause-allows : goal.returns-clause-allows
unfolding allows
returns-clause-allows c =
    let listed = λ (key : List ℕ). option_map_or (λ list. list.items) (get_by_text c.args.index.now key) [] in
    let keys : map string_bytes c.as_slice.result.now ≡ keys_of c.args.query.now = ap (map string_bytes) c.as_slice.ensures.value ∙ c.in_ok-keys.ensures in
    let found : c.as_slice-2.result.now ≡ flat_map listed (keys_of c.args.query.now) =
    c.as_slice-2.ensures.value ∙ c.in_ok-indexes.ensures ∙ ap (flat_map listed) keys in
    c.in_ok-allows.ensures.allows ∙ ap (list_any (allows_at c.args.query.now c.args.entries.now)) found
    ∙ any-found c.args.query.now c.args.entries.now listed c.requires.indexed no_entry

pub returns-clause-used : goal.returns-clause-used
returns-clause-used c = λ k within.
    let listed = λ (key : List ℕ). option_map_or (λ list. list.items) (get_by_text c.args.index.now key) [] in
    let keys : map string_bytes c.as_slice.result.now ≡ keys_of c.args.query.now = ap (map string_bytes) c.as_slice.ensures.value ∙ c.in_ok-keys.ensures in
    let found : c.as_slice-2.result.now ≡ flat_map listed (keys_of c.args.query.now) =
    c.as_slice-2.ensures.value ∙ c.in_ok-indexes.ensures ∙ ap (flat_map listed) keys in
    let before = get_or c.args.used.now k false in
    c.in_ok-allows.ensures.used k within
    ∙ ap (λ indexes. before || (list_any (nat_eq k) indexes && allows_at c.args.query.now c.args.entries.now k)) found
    ∙ used-found c.args.query.now c.args.entries.now listed c.requires.indexed k no_entry before

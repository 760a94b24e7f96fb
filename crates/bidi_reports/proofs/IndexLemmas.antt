-- Whatever allows something is found by one of its keys.
use Rattle.std.proofs.Common.{◌≡◌, ℕ, ◌+◌, ◌<◌, ◌≤◌, ◌&&◌, ◌||◌, ◌==◌, Bool, true, false, List, [], ◌∷◌, ◌++◌, length, get_or, map, filter, flat_map, nat_eq, encode_utf8, Option, Some, None, option_map, slice_get, string_bytes, String, ◌⊎◌, inl, inr, refl, sym, ◌∙◌, ap, arith, suc, zero}
use Rattle.std.specs.List.{list_any}
use Rattle.std.specs.Str.{bytes_eq, chars}
use Rattle.std.proofs.lemmas.Grind.{common_steps}
use Rattle.std.proofs.lemmas.List.Folds.{list_any-append, list_any_at}
use Rattle.std.proofs.lemmas.Option.{slice_get_cases}
use Rattle.std.proofs.lemmas.Bool.{eq-eqb, eqb-true}
use Rattle.std.proofs.lemmas.Slice.Eq.{bytes_eq-Decides}
use Rattle.bidi_reports.specs.AllowIndex.{literal_text, line_key, digest_key, digest_path_key, key_with, key_of, name_key, place_keys, keys_of, keyed_from, indexes_at, allows_at}
use Rattle.bidi_reports.specs.Entries.{Entry, Query, allows_kind, allows_number, allows_place, entry_allows}
use Rattle.bidi_reports.specs.Globs.{matches}
use Rattle.bidi_reports.specs.Patterns.{allows_name, is_wild, plain_path, subject_of}
use Rattle.bidi_reports.specs.declared.glob.Part.{Part}
use Rattle.bidi_reports.specs.declared.glob.Part.TheVariants.{Char, One, InName, Any}

-- ---- tests

or-left : (a b : Bool) → a ≡ true → (a || b) ≡ true
or-left a b is = rw is refl

or-right : (a b : Bool) → b ≡ true → (a || b) ≡ true
or-right true b is = refl
or-right false b is = is

and-both : (a b : Bool) → (a && b) ≡ true → (a ≡ true) × (b ≡ true)
and-both true b is = (refl, is)
and-both false b is = cc

eq-same : (a b : List ℕ) → a ≡ b → bytes_eq a b ≡ true
eq-same a b e = (bytes_eq-Decides a b).1 e

-- ---- patterns without wildcards match themselves

literal-more : (own : ℕ) (parts : List Part) (path : List ℕ) (rest : Option (List ℕ)) → literal_text parts ≡ rest → option_map (λ more. encode_utf8 own ++ more) rest ≡ Some path
    → (more : List ℕ) × (literal_text parts ≡ Some more) × (path ≡ encode_utf8 own ++ more)
literal-more own parts path None e is = cc
literal-more own parts path (Some more) e is = (more, e, cc)

literal-matches : (parts : List Part) (path : List ℕ) (chars : List ℕ) → literal_text parts ≡ Some path → matches parts chars ≡ true → path ≡ flat_map encode_utf8 chars
unfolding matches
literal-matches [] path [] is found = cc
literal-matches [] path (c ∷ chars) is found = let none : length (c ∷ chars) ≡ 0 = eqb-true (length (c ∷ chars)) 0 found in absurd (omega arith)
literal-matches (Char own ∷ parts) path [] is found = cc
literal-matches (Char own ∷ parts) path (c ∷ chars) is found =
    let both = and-both (own == c) (matches parts chars) found in
    let same : own ≡ c = eqb-true own c both.0 in
    let more = literal-more own parts path (literal_text parts) refl is in
    rw (more.2, literal-matches parts more.0 chars more.1 both.1, same) refl
literal-matches (One ∷ parts) path chars is found = cc
literal-matches (InName ∷ parts) path chars is found = cc
literal-matches (Any ∷ parts) path chars is found = cc

literal-wild : (parts : List Part) (path : List ℕ) → literal_text parts ≡ Some path → list_any is_wild parts ≡ false
literal-wild [] path is = refl
literal-wild (Char own ∷ parts) path is =
    let more = literal-more own parts path (literal_text parts) refl is in literal-wild parts more.0 more.1
literal-wild (One ∷ parts) path is = cc
literal-wild (InName ∷ parts) path is = cc
literal-wild (Any ∷ parts) path is = cc

subject-whole : (parts : List Part) (path : List ℕ) → list_any is_wild parts ≡ false → subject_of parts path ≡ path
subject-whole parts path tame = rw tame refl

pub literal-name : (parts : List Part) (path name : List ℕ) → literal_text parts ≡ Some path → allows_name parts name ≡ true → path ≡ name_key name
unfolding allows_name
literal-name parts path name is allows =
    literal-matches parts path (chars (plain_path name)) is
    (ap (matches parts) (sym (subject-whole parts (chars (plain_path name)) (literal-wild parts path is))) ∙ allows)

-- ---- one of the keys is that of the entry

key-with : (parts : List Part) (line : Option ℕ) (digest path : Option (List ℕ)) (name : List ℕ) (place : Option (ℕ × List ℕ)) → literal_text parts ≡ path
    → allows_place line digest place ≡ true → allows_name parts name ≡ true
    → list_any (bytes_eq (key_with digest path line)) ([] ∷ name_key name ∷ place_keys (name_key name) place) ≡ true
key-with parts None (Some digest) path name None is at named = cc
key-with parts (Some number) (Some digest) path name None is at named = cc
key-with parts line (Some digest) None name (Some place) is at named =
    let both = and-both (allows_number line place.0) (bytes_eq digest place.1) at in
    let same : digest ≡ place.1 = (bytes_eq-Decides digest place.1).0 both.1 in
    or-right _ _ (or-right _ _ (or-left _ _ (eq-same (digest_key digest) (digest_key place.1) (ap digest_key same))))
key-with parts line (Some digest) (Some path) name (Some place) is at named =
    let both = and-both (allows_number line place.0) (bytes_eq digest place.1) at in
    let same : digest ≡ place.1 = (bytes_eq-Decides digest place.1).0 both.1 in
    let path-same : path ≡ name_key name = literal-name parts path name is named in
    let key = bytes_eq (digest_path_key digest path) in
    or-right (key []) _ (or-right (key (name_key name)) _ (or-right (key (digest_key place.1)) _ (or-left (key (digest_path_key place.1 (name_key name))) _
    (eq-same (digest_path_key digest path) (digest_path_key place.1 (name_key name)) (rw (same, path-same) refl)))))
key-with parts line None None name place is at named = refl
key-with parts None None (Some path) name place is at named =
    or-right _ _ (or-left _ _ (eq-same path (name_key name) (literal-name parts path name is named)))
key-with parts (Some number) None (Some path) name None is at named = cc
key-with parts (Some number) None (Some path) name (Some place) is at named =
    let both = and-both (number == place.0) true at in
    let same : number ≡ place.0 = eqb-true number place.0 both.0 in
    let path-same : path ≡ name_key name = literal-name parts path name is named in
    let key = bytes_eq (line_key path number) in
    or-right (key []) _ (or-right (key (name_key name)) _ (or-right (key (digest_key place.1)) _
    (or-right (key (digest_path_key place.1 (name_key name))) _ (or-left (key (line_key (name_key name) place.0)) false
    (eq-same (line_key path number) (line_key (name_key name) place.0) (rw (path-same, same) refl))))))

pub key-found : (query : Query) (entry : Entry) → entry_allows query entry ≡ true → list_any (bytes_eq (key_of entry)) (keys_of query) ≡ true
unfolding entry_allows
key-found query entry allows =
    let kind = and-both (allows_kind entry.kinds query.kind) _ allows in
    let place = and-both (allows_place entry.line entry.digest query.place) _ kind.1 in
    key-with entry.parts entry.line entry.digest (literal_text entry.parts) query.name query.place refl place.0 place.1

-- ---- the index of an entry is among those of its key

in-rest : (n : ℕ) (test : Bool) (from : ℕ) (rest : List (List ℕ × ℕ)) (key : List ℕ) (own : List ℕ) → bytes_eq key own ≡ test → list_any (nat_eq n) (indexes_at key rest) ≡ true
    → list_any (nat_eq n) (indexes_at key ((own, from) ∷ rest)) ≡ true
in-rest n true from rest key own e found = rw e (or-right _ _ found)
in-rest n false from rest key own e found = rw e found

indexed : (entries : List Entry) (from k n : ℕ) (d : Entry) → k < length entries → n ≡ from + k
    → list_any (nat_eq n) (indexes_at (key_of (get_or entries k d)) (keyed_from from entries)) ≡ true
indexed [] from k n d within e = absurd (omega arith)
indexed (entry ∷ entries) from zero n d within e =
    let own = eq-same (key_of entry) (key_of entry) refl in
    let same : nat_eq n from ≡ true = eq-eqb n from (omega arith) in
    rw own (or-left _ _ same)
indexed (entry ∷ entries) from (suc k) n d within e =
    in-rest n (bytes_eq (key_of (get_or entries k d)) (key_of entry)) from (keyed_from (from + 1) entries) (key_of (get_or entries k d)) (key_of entry) refl
    (indexed entries (from + 1) k n d (omega arith) (omega arith))

-- the pairs of a list of strings
mapped-step : {Z : Type 0} (key : List ℕ) (p : String Z × ℕ) (pairs : List (String Z × ℕ)) (test : Bool) → bytes_eq key (string_bytes p.0) ≡ test
    → map (λ p. p.1) (filter (λ p. bytes_eq key (string_bytes p.0)) pairs) ≡ indexes_at key (map (λ p. (string_bytes p.0, p.1)) pairs)
    → map (λ p. p.1) (filter (λ p. bytes_eq key (string_bytes p.0)) (p ∷ pairs)) ≡ indexes_at key (map (λ p. (string_bytes p.0, p.1)) (p ∷ pairs))
mapped-step key p pairs true e rest = rw (e, rest) refl
mapped-step key p pairs false e rest = rw (e, rest) refl

pub indexes-mapped : {Z : Type 0} (key : List ℕ) (pairs : List (String Z × ℕ))
    → map (λ p. p.1) (filter (λ p. bytes_eq key (string_bytes p.0)) pairs) ≡ indexes_at key (map (λ p. (string_bytes p.0, p.1)) pairs)
indexes-mapped key [] = refl
indexes-mapped key (p ∷ pairs) = mapped-step key p pairs (bytes_eq key (string_bytes p.0)) refl (indexes-mapped key pairs)

-- ---- all together

found-there : (n : ℕ) (key own : List ℕ) (listed : List ℕ → List ℕ) (later others : Bool) → list_any (nat_eq n) (listed key) ≡ true → (here : Bool) → bytes_eq key own ≡ here → (here || others) ≡ true
    → (others ≡ true → later ≡ true) → (list_any (nat_eq n) (listed own) || later) ≡ true
found-there n key own listed later others found true e is next =
    or-left _ _ (ap (λ key. list_any (nat_eq n) (listed key)) (sym ((bytes_eq-Decides key own).0 e)) ∙ found)
found-there n key own listed later others found false e is next = or-right _ _ (next is)

flat-found : (n : ℕ) (key : List ℕ) (listed : List ℕ → List ℕ) (keys : List (List ℕ)) → list_any (nat_eq n) (listed key) ≡ true → list_any (bytes_eq key) keys ≡ true
    → list_any (nat_eq n) (flat_map listed keys) ≡ true
flat-found n key listed [] found is = cc
flat-found n key listed (own ∷ keys) found is =
    list_any-append (nat_eq n) (listed own) (flat_map listed keys)
    ∙ found-there n key own listed (list_any (nat_eq n) (flat_map listed keys)) (list_any (bytes_eq key) keys) found (bytes_eq key own) refl is
    (λ rest. flat-found n key listed keys found rest)

bool-same : (a b : Bool) → (a ≡ true → b ≡ true) → (b ≡ true → a ≡ true) → a ≡ b
bool-same true b to from = sym (to refl)
bool-same false true to from = from refl
bool-same false false to from = refl

-- one of these indexes is that index, and it passes the test
index-step : (k n : ℕ) (test : ℕ → Bool) (indexes : List ℕ) → test k ≡ true → (same : Bool) → nat_eq k n ≡ same → (same || list_any (nat_eq k) indexes) ≡ true
    → (list_any (nat_eq k) indexes ≡ true → list_any test indexes ≡ true) → (test n || list_any test indexes) ≡ true
index-step k n test indexes passes true e found next = or-left _ _ (ap test (sym (eqb-true k n e)) ∙ passes)
index-step k n test indexes passes false e found next = or-right _ _ (next found)

index-passes : (k : ℕ) (test : ℕ → Bool) (indexes : List ℕ) → test k ≡ true → list_any (nat_eq k) indexes ≡ true → list_any test indexes ≡ true
index-passes k test [] passes found = cc
index-passes k test (n ∷ indexes) passes found = index-step k n test indexes passes (nat_eq k n) refl found (λ rest. index-passes k test indexes passes rest)

entry-step : (p : Entry → Bool) (entry : Entry) (entries : List Entry) (d : Entry) → (here : Bool) → p entry ≡ here → (here || list_any p entries) ≡ true
    → (list_any p entries ≡ true → (k : ℕ) × (k < length entries) × (p (get_or entries k d) ≡ true))
    → (k : ℕ) × (k < length (entry ∷ entries)) × (p (get_or (entry ∷ entries) k d) ≡ true)
entry-step p entry entries d true e found next = (zero, omega arith, e)
entry-step p entry entries d false e found next = let at = next found in (suc at.0, omega arith, at.2)

below-suc : (k n : ℕ) → (k < n) ⊎ (n ≤ k) → (suc k < suc n) ⊎ (suc n ≤ suc k)
below-suc k n (inl below) = inl (omega arith)
below-suc k n (inr past) = inr (omega arith)

below_or : (k n : ℕ) → (k < n) ⊎ (n ≤ k)
below_or zero zero = inr (omega arith)
below_or zero (suc n) = inl (omega arith)
below_or (suc k) zero = inr (omega arith)
below_or (suc k) (suc n) = below-suc k n (below_or k n)

used-same : (listed allows : Bool) → (allows ≡ true → listed ≡ true) → (listed && allows) ≡ (allows || false)
used-same true true known = refl
used-same true false known = refl
used-same false true known = known refl
used-same false false known = refl

slice_get-within : (entries : List Entry) (k : ℕ) (d : Entry) → k < length entries → slice_get entries k ≡ Some (get_or entries k d)
slice_get-within entries k d within = grind (arith, common_steps, slice_get_cases entries k)

slice_get-past : (entries : List Entry) (k : ℕ) → length entries ≤ k → slice_get entries k ≡ None
slice_get-past entries k past = grind (arith, common_steps, slice_get_cases entries k)

entry-passes : (p : Entry → Bool) (entries : List Entry) (d : Entry) → list_any p entries ≡ true → (k : ℕ) × (k < length entries) × (p (get_or entries k d) ≡ true)
entry-passes p [] d found = cc
entry-passes p (entry ∷ entries) d found = entry-step p entry entries d (p entry) refl found (λ rest. entry-passes p entries d rest)

module _ (query : Query) (entries : List Entry) (listed : List ℕ → List ℕ) (all : (key : List ℕ) → listed key ≡ indexes_at key (keyed_from 0 entries)) where
  abbrev pub found : List ℕ
  found = flat_map listed (keys_of query)

  at-within : (k : ℕ) (d : Entry) → k < length entries → allows_at query entries k ≡ entry_allows query (get_or entries k d)
  at-within k d within = rw (slice_get-within entries k d within) refl

  at-past : (k : ℕ) → length entries ≤ k → allows_at query entries k ≡ false
  at-past k past = rw (slice_get-past entries k past) refl

  found-within : (k : ℕ) (d : Entry) → k < length entries → entry_allows query (get_or entries k d) ≡ true → list_any (nat_eq k) found ≡ true
  found-within k d within allows =
      let entry = get_or entries k d in
      flat-found k (key_of entry) listed (keys_of query) (rw (all (key_of entry)) (indexed entries 0 k k d within (omega arith))) (key-found query entry allows)

  allows-found : (k : ℕ) (d : Entry) → (k < length entries) ⊎ (length entries ≤ k) → allows_at query entries k ≡ true → list_any (nat_eq k) found ≡ true
  allows-found k d (inl within) allows = found-within k d within (sym (at-within k d within) ∙ allows)
  allows-found k d (inr past) allows = let none = at-past k past in cc

  some-here : (d : Entry) (k : ℕ) → k < length entries → (later here : Bool) → entry_allows query (get_or entries k d) ≡ here → (here || later) ≡ true
      → (later ≡ true → list_any (entry_allows query) entries ≡ true) → list_any (entry_allows query) entries ≡ true
  some-here d k within later true e some next = list_any_at (entry_allows query) entries k d within e
  some-here d k within later false e some next = next some

  some-step : (d : Entry) (k : ℕ) → (k < length entries) ⊎ (length entries ≤ k) → (later : Bool) → (allows_at query entries k || later) ≡ true
      → (later ≡ true → list_any (entry_allows query) entries ≡ true) → list_any (entry_allows query) entries ≡ true
  some-step d k (inl within) later some next =
      some-here d k within later (entry_allows query (get_or entries k d)) refl (ap (λ b. b || later) (sym (at-within k d within)) ∙ some) next
  some-step d k (inr past) later some next = next (ap (λ b. b || later) (sym (at-past k past)) ∙ some)

  some-allows : (d : Entry) (indexes : List ℕ) → list_any (allows_at query entries) indexes ≡ true → list_any (entry_allows query) entries ≡ true
  some-allows d [] some = cc
  some-allows d (k ∷ indexes) some = some-step d k (below_or k (length entries)) (list_any (allows_at query entries) indexes) some (some-allows d indexes)

  pub any-found : (d : Entry) → list_any (allows_at query entries) found ≡ list_any (entry_allows query) entries
  any-found d = bool-same _ _ (some-allows d found) (λ some.
      let at = entry-passes (entry_allows query) entries d some in
      index-passes at.0 (allows_at query entries) found (at-within at.0 d at.1 ∙ at.2) (found-within at.0 d at.1 at.2))

  pub used-found : (k : ℕ) (d : Entry) (before : Bool) → (before || (list_any (nat_eq k) found && allows_at query entries k)) ≡ (before || (allows_at query entries k || false))
  used-found k d before = ap (λ b. before || b) (used-same (list_any (nat_eq k) found) (allows_at query entries k) (allows-found k d (below_or k (length entries))))

-- Versions as numbers.
use Rattle.std.specs.Prelude.{ℕ, ◌+◌, ◌*◌}

-- the number of a version, from its major, minor and patch numbers
abbrev pub version_number : ℕ × ℕ × ℕ → ℕ
version_number version = version.0 * 10000 + version.1 * 100 + version.2

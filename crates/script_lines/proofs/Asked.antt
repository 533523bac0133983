-- Which lines clone nothing is told by their second word.
use Rattle.std.proofs.Common.{◌≡◌, List, [], ◌∷◌, ℕ, Bool, true, false, ◌&&◌, cond, Option, Some, None, Result, Ok, Err, codes, refl, sym, ap, ◌∙◌}
use Rattle.std.proofs.lemmas.Option.{same_Some}
use Rattle.script_words.specs.declared.fault.BadWhy.{BadWhy}
use Rattle.script_words.specs.Words.{words_of_line}
use Rattle.script_words.specs.Fields.{is_word, node_of, asks, asking, words_asking}
use Rattle.script_lines.specs.Clones.{is_host, clone_by, name_if, clone_of, clone_said, clone_in}

pub none_of : (words : List (List ℕ)) → asks (codes "clone") words ≡ false → clone_of words ≡ None
unfolding clone_of
none_of [] e = refl
none_of (node ∷ []) e = refl
none_of (node ∷ verb ∷ []) e = refl
none_of (node ∷ verb ∷ source ∷ []) e = refl
none_of (node ∷ verb ∷ source ∷ new ∷ []) e = by_host (is_host (node_of node))
  where
    by_host : (host : Bool) → cond (host && is_word verb (codes "clone")) (clone_by (name_if source) (name_if new)) None ≡ None
    by_host true = rw e refl
    by_host false = refl
none_of (node ∷ verb ∷ source ∷ new ∷ more ∷ words) e = refl

pub said_by : (read : Result (List (List ℕ)) BadWhy) → asking (codes "clone") read ≡ None → clone_said read ≡ None
said_by (Err why) e = refl
said_by (Ok words) e = by_test (asks (codes "clone") words) refl e
  where
    by_test : (v : Bool) → asks (codes "clone") words ≡ v → cond v (Some words) None ≡ None → clone_of words ≡ None
    by_test true k n = absurd (cc)
    by_test false k n = none_of words k

pub said_so : (read : Result (List (List ℕ)) BadWhy) (words : List (List ℕ)) → asking (codes "clone") read ≡ Some words → clone_said read ≡ clone_of words
said_so (Err why) words e = absurd (cc)
said_so (Ok all) words e = by_test (asks (codes "clone") all) e
  where
    by_test : (v : Bool) → cond v (Some all) None ≡ Some words → clone_of all ≡ clone_of words
    by_test true k = ap clone_of (same_Some all words k)
    by_test false k = absurd (cc)

pub nothing_asked : (line : List ℕ) → words_asking line (codes "clone") ≡ None → clone_in line ≡ None
unfolding words_asking clone_in
nothing_asked line e = said_by (words_of_line line) e

pub clone_asked : (line : List ℕ) (words : List (List ℕ)) → words_asking line (codes "clone") ≡ Some words → clone_in line ≡ clone_of words
unfolding words_asking clone_in
clone_asked line words e = said_so (words_of_line line) words e

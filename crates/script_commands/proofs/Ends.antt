use Rattle.std.proofs.Common.{◌≡◌, ◌&&◌, ◌||◌, Bool, true, false, not, if◌then◌else◌, List, [], ◌∷◌, ◌++◌, take, drop, refl, sym, ap, subst, ◌∙◌, codes, fold}
use Rattle.std.proofs.lemmas.List.{take-append-drop}
use Rattle.std.specs.List.{list_all}
use Rattle.clap.specs.Walk.{Row, Text, walked}
use Rattle.clap.specs.Takes.{turn_passes, walk_passes}
use Rattle.script_words.specs.Fields.{is_word}
use Rattle.script_commands.specs.Parts.{joined, is_json, is_workers, parts_of}
use Rattle.script_commands.specs.Plain.{is_dashed, is_plain}
use Rattle.script_commands.proofs.Steps.{with_parts, add_workers, add_json, add_other, parts_first, parts_pair, parts_none, is_text}
use Rattle.script_commands.proofs.Walked.{Left, clear, other, worker, rules, shape, stands, add, taken, vals, json_step, said_step, other_step, value_step, json_passes, said_passes, name_passes, other_passes, value_passes, json_more, workers_more, others_more}

pub both : (a b : Bool) → (a && b) ≡ true → (a ≡ true) × (b ≡ true)
both true true h = (refl, refl)
both true false h = cc
both false b h = cc

not_true : (b : Bool) → not b ≡ true → b ≡ false
not_true true h = cc
not_true false h = refl

-- the step of a word that says something by itself
record Alone (rows : List Row) (left : Left) (word : Text) : Type 0 where
  end : List Row
  last : Left
  step : walked rules [] (stands rows left) word ≡ stands end last
  values : vals (taken end last) ≡ with_parts (vals (taken rows left)) (parts_of (word ∷ []))
  passes : turn_passes shape [] (stands rows left) word ≡ true

alone_said : (rows : List Row) (left : Left) (v : Text) → Alone rows left (codes "--workers=" ++ v)
unfolding is_word
alone_said rows left v = record {
  end = add (codes "workers") v (taken rows left);
  last = clear;
  step = said_step rows left v;
  values = workers_more v (taken rows left) ∙ sym (add_workers (vals (taken rows left)) (codes "--workers=" ++ v) refl);
  passes = said_passes rows left v;
}

alone_json : (rows : List Row) (left : Left) → Alone rows left (codes "--json")
unfolding is_word
alone_json rows left = record {
  end = add (codes "json") (codes "--json") (taken rows left);
  last = clear;
  step = json_step rows left;
  values = json_more (codes "--json") (taken rows left) ∙ sym (add_json (vals (taken rows left)) (codes "--json") refl refl);
  passes = json_passes rows left;
}

alone_other : (rows : List Row) (left : Left) (word : Text) → is_workers word ≡ false → is_json word ≡ false → is_dashed word ≡ false → Alone rows left word
unfolding is_word
alone_other rows left word h k d = record {
  end = taken rows left;
  last = other word;
  step = other_step rows left word d;
  values = others_more word (taken rows left) ∙ sym (add_other (vals (taken rows left)) word h k);
  passes = other_passes rows left word d;
}

-- a word with this at its front
begun : (word : Text) → is_workers word ≡ true → codes "--workers=" ++ drop 10 word ≡ word
begun word h = ap (λ t. t ++ drop 10 word) (sym (is_text (take 10 word) (codes "--workers=") h)) ∙ take-append-drop 10 word

alone : (rows : List Row) (left : Left) (word : Text) → is_plain word ≡ true → Alone rows left word
alone rows left word =
    elim (is_workers word) as (λ t. is_workers word ≡ t → (if t then not (is_dashed (drop 10 word)) else (is_json word || not (is_dashed word))) ≡ true → Alone rows left word) [
      | true ↦ λ e h. subst (λ w. Alone rows left w) (begun word e) (alone_said rows left (drop 10 word))
      | false ↦ λ e. elim (is_json word) as (λ t. is_json word ≡ t → (t || not (is_dashed word)) ≡ true → Alone rows left word) [
        | true ↦ λ k h. subst (λ w. Alone rows left w) (sym (is_text word (codes "--json") k)) (alone_json rows left)
        | false ↦ λ k h. alone_other rows left word e k (not_true (is_dashed word) h)
      ] refl
    ] refl

-- the walk over words that are all plain: it passes, and what it takes is their parts
pub record Ends (rows : List Row) (left : Left) (words : List Text) : Type 0 where
  pub end : List Row
  pub last : Left
  pub walk : fold (walked rules []) (stands rows left) words ≡ stands end last
  pub values : vals (taken end last) ≡ with_parts (vals (taken rows left)) (parts_of words)
  pub passes : walk_passes shape [] (stands rows left) words ≡ true

ends_none : (rows : List Row) (left : Left) → Ends rows left []
unfolding walk_passes
ends_none rows left = record { end = rows; last = left; walk = refl; values = sym (parts_none (vals (taken rows left))); passes = refl }

-- after a word that says something by itself
ends_after : (rows : List Row) (left : Left) (word : Text) (words : List Text) (one : Alone rows left word) → Ends one.end one.last words → with_parts (with_parts (vals (taken rows left)) (parts_of (word ∷ []))) (parts_of words) ≡ with_parts (vals (taken rows left)) (parts_of (word ∷ words)) → Ends rows left (word ∷ words)
unfolding walk_passes
ends_after rows left word words one rest first = record {
  end = rest.end;
  last = rest.last;
  walk = ap (λ w. fold (walked rules []) w words) one.step ∙ rest.walk;
  values = rest.values ∙ (ap (λ p. with_parts p (parts_of words)) one.values ∙ first);
  passes = rw (one.passes, one.step) rest.passes;
}

-- after a `--workers` and its value
ends_value : (rows : List Row) (left : Left) (value : Text) (words : List Text) → is_dashed value ≡ false → Ends (taken rows left) (worker value) words → Ends rows left (codes "--workers" ∷ value ∷ words)
unfolding walk_passes
ends_value rows left value words d rest = record {
  end = rest.end;
  last = rest.last;
  walk = ap (λ w. fold (walked rules []) w words) (value_step rows left value d) ∙ rest.walk;
  values = rest.values ∙ (ap (λ p. with_parts p (parts_of words)) (workers_more value (taken rows left)) ∙ parts_pair (vals (taken rows left)) value words);
  passes = rw (name_passes rows left, value_passes rows left value d, value_step rows left value d) rest.passes;
}

value_plain : (value : Text) → is_plain (codes "--workers=" ++ value) ≡ true → is_dashed value ≡ false
unfolding is_word
value_plain value h = not_true (is_dashed value) h

pub ends : (words : List Text) (rows : List Row) (left : Left) → list_all is_plain (joined words) ≡ true → Ends rows left words
ends [] rows left h = ends_none rows left
ends (word ∷ []) rows left h =
    let one = alone rows left word (both (is_plain word) true h).0 in
    ends_after rows left word [] one (ends_none one.end one.last) (parts_none _)
ends (word ∷ next ∷ words) rows left h =
    elim (is_word word (codes "--workers")) as (λ t. is_word word (codes "--workers") ≡ t → list_all is_plain (if t then (codes "--workers=" ++ next) ∷ joined words else word ∷ joined (next ∷ words)) ≡ true → Ends rows left (word ∷ next ∷ words)) [
      | true ↦ λ e k.
          let plain = both (is_plain (codes "--workers=" ++ next)) (list_all is_plain (joined words)) k in
          subst (λ w. Ends rows left (w ∷ next ∷ words)) (sym (is_text word (codes "--workers") e)) (ends_value rows left next words (value_plain next plain.0) (ends words (taken rows left) (worker next) plain.1))
      | false ↦ λ e k.
          let plain = both (is_plain word) (list_all is_plain (joined (next ∷ words))) k in
          let one = alone rows left word plain.0 in
          ends_after rows left word (next ∷ words) one (ends (next ∷ words) one.end one.last plain.1) (parts_first (vals (taken rows left)) word (next ∷ words) e)
    ] refl h

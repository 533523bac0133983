-- What single words name.
use Rattle.std.specs.Prelude.{ℕ, Bool, true, false, if◌then◌else◌, List, Option, Some, None, codes}
use Rattle.base_types.specs.declared.ids.OpenKind.{OpenKind}
use Rattle.base_types.specs.declared.ids.OpenKind.TheVariants.{Reading, Writing, Executing, Shared, Exclusive}
use Rattle.script_words.specs.Fields.{is_word}

-- how a file is opened
unfoldable pub open_kind_of : List ℕ → Option OpenKind
open_kind_of word =
    if is_word word (codes "reading") then Some Reading
    else (if is_word word (codes "writing") then Some Writing
    else (if is_word word (codes "executing") then Some Executing
    else (if is_word word (codes "shared") then Some Shared
    else (if is_word word (codes "exclusive") then Some Exclusive else None))))

-- whether a lock is for writing
unfoldable pub lock_mode_of : List ℕ → Option Bool
lock_mode_of word =
    if is_word word (codes "read") then Some false
    else (if is_word word (codes "write") then Some true else None)

-- the number of a message's kind, which is not that of a host that is down
unfoldable pub kind_of : List ℕ → Option ℕ
kind_of word =
    if is_word word (codes "hello") then Some 1
    else (if is_word word (codes "fetch") then Some 2
    else (if is_word word (codes "grant") then Some 3
    else (if is_word word (codes "change") then Some 4
    else (if is_word word (codes "done") then Some 5
    else (if is_word word (codes "revoke") then Some 6
    else (if is_word word (codes "returned") then Some 7
    else (if is_word word (codes "kept") then Some 8
    else (if is_word word (codes "giveback") then Some 9
    else (if is_word word (codes "gone") then Some 10
    else (if is_word word (codes "reclaim") then Some 11
    else (if is_word word (codes "reclaimed") then Some 12
    else (if is_word word (codes "restarted") then Some 13
    else (if is_word word (codes "bye") then Some 15 else None)))))))))))))

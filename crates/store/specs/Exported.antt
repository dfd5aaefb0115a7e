-- What the exported audit answers.
use Rattle.std.specs.Prelude.{ℕ, Bool, cond, ◌&&◌, List, [], ◌≡◌, length}
use Rattle.definition.specs.Torn.{sound}
use Rattle.words.specs.Words.{board_in, is_kept}
use Rattle.service.specs.Serving.{world_in}

-- the words are a state's, and its world with these loans is sound
abbrev pub is_whole : (words records memory queue : List ℕ) → Bool
is_whole words records memory queue =
    is_kept words
    && sound (board_in words) (world_in (record { words = words; records = records; memory = memory; queue = queue; answer = [] }))

-- 0 or 6, whatever the bytes of the memory and the places of the queue
abbrev pub Audits : (words records : List ℕ) → (memory_len queue_len : ℕ) → ℕ → Type 0
Audits words records memory_len queue_len r =
    (memory queue : List ℕ) → length memory ≡ memory_len → length queue ≡ queue_len → r ≡ cond (is_whole words records memory queue) 0 6

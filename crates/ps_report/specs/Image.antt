-- The text of an image.
use Rattle.std.specs.Prelude.{ℕ, List, ◌++◌, ◌+◌, ◌*◌, ◌/◌, codes, decimal, length, take, drop, flat_map}
use Rattle.std.specs.List.{range_with_len}
use Rattle.hex.specs.Hex.{encode_lower}
use Rattle.ps_model.specs.declared.channel.Channel.{Channel}
use Rattle.ps_model.specs.declared.channel.Channel.TheVariants.{A, B}

-- the letter of a channel
abbrev pub channel_letter : Channel → List ℕ
channel_letter A = codes "A"
channel_letter B = codes "B"

-- as `A code 33 memory 97 turns 11`: bytes of code, bytes of cells, and the budget of turns
abbrev pub size_line : Channel → (code cells turns : ℕ) → List ℕ
size_line channel code cells turns =
    channel_letter channel ++ codes " code " ++ decimal code ++ codes " memory " ++ decimal cells ++ codes " turns " ++ decimal turns ++ codes "\n"

-- line i of a code: up to 32 bytes from byte 32 i on, in lower-case hexadecimal
abbrev pub code_line : List ℕ → ℕ → List ℕ
code_line code i = encode_lower (take 32 (drop (32 * i) code)) ++ codes "\n"

-- a channel's part of the text of an image: its size line and the lines of its code
abbrev pub image_part : Channel → List ℕ → (cells turns : ℕ) → List ℕ
image_part channel code cells turns =
    size_line channel (length code) cells turns ++ flat_map (code_line code) (range_with_len 0 ((length code + 31) / 32))

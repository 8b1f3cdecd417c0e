-- Generated from library/core/src/unicode/unicode_data.rs of Rust 1.97.0 by `oracle/make`; do not edit.
use Rattle.std.specs.Prelude.{ℕ, List, [], ◌∷◌}

-- plane 0, rows: the first number of each
unfoldable pub starts0 : List ℕ
starts0 =
    0x01C4 ∷ 0x01C5 ∷ 0x01C6 ∷ 0x01C7 ∷ 0x01C8 ∷ 0x01C9 ∷ 0x01CA ∷ 0x01CB ∷ 0x01CC ∷ 0x01F1 ∷ 0x01F2 ∷
    0x01F3 ∷ 0x10D0 ∷ 0x10FD ∷ 0x1F80 ∷ 0x1F88 ∷ 0x1F90 ∷ 0x1F98 ∷ 0x1FA0 ∷ 0x1FA8 ∷ 0x1FB3 ∷ 0x1FBC ∷
    0x1FC3 ∷ 0x1FCC ∷ 0x1FF3 ∷ 0x1FFC ∷ []

-- plane 0, rows: the last number of each
unfoldable pub ends0 : List ℕ
ends0 =
    0x01C4 ∷ 0x01C5 ∷ 0x01C6 ∷ 0x01C7 ∷ 0x01C8 ∷ 0x01C9 ∷ 0x01CA ∷ 0x01CB ∷ 0x01CC ∷ 0x01F1 ∷ 0x01F2 ∷
    0x01F3 ∷ 0x10FA ∷ 0x10FF ∷ 0x1F87 ∷ 0x1F8F ∷ 0x1F97 ∷ 0x1F9F ∷ 0x1FA7 ∷ 0x1FAF ∷ 0x1FB3 ∷ 0x1FBC ∷
    0x1FC3 ∷ 0x1FCC ∷ 0x1FF3 ∷ 0x1FFC ∷ []

-- plane 0, rows: 2 where only numbers of the start's parity are covered, else 1
unfoldable pub steps0 : List ℕ
steps0 =
    1 ∷ 1 ∷ 1 ∷ 1 ∷ 1 ∷ 1 ∷ 1 ∷ 1 ∷ 1 ∷ 1 ∷ 1 ∷ 1 ∷ 1 ∷ 1 ∷ 1 ∷ 1 ∷ 1 ∷ 1 ∷ 1 ∷ 1 ∷ 1 ∷ 1 ∷ 1 ∷ 1 ∷ 1 ∷
    1 ∷ []

-- plane 0, rows: what is added to the low 16 bits, wrapping
unfoldable pub deltas0 : List ℕ
deltas0 =
    0x0001 ∷ 0x0000 ∷ 0xFFFF ∷ 0x0001 ∷ 0x0000 ∷ 0xFFFF ∷ 0x0001 ∷ 0x0000 ∷ 0xFFFF ∷ 0x0001 ∷ 0x0000 ∷
    0xFFFF ∷ 0x0000 ∷ 0x0000 ∷ 0x0008 ∷ 0x0000 ∷ 0x0008 ∷ 0x0000 ∷ 0x0008 ∷ 0x0000 ∷ 0x0009 ∷ 0x0000 ∷
    0x0009 ∷ 0x0000 ∷ 0x0009 ∷ 0x0000 ∷ []

-- plane 0, multi rows: the number mapped
unfoldable pub multi0 : List ℕ
multi0 =
    0x00DF ∷ 0x0587 ∷ 0x1FB2 ∷ 0x1FB4 ∷ 0x1FB7 ∷ 0x1FC2 ∷ 0x1FC4 ∷ 0x1FC7 ∷ 0x1FF2 ∷ 0x1FF4 ∷ 0x1FF7 ∷
    0xFB00 ∷ 0xFB01 ∷ 0xFB02 ∷ 0xFB03 ∷ 0xFB04 ∷ 0xFB05 ∷ 0xFB06 ∷ 0xFB13 ∷ 0xFB14 ∷ 0xFB15 ∷ 0xFB16 ∷
    0xFB17 ∷ []

-- plane 0, multi rows: the first number of the answer
unfoldable pub multi0_first : List ℕ
multi0_first =
    0x0053 ∷ 0x0535 ∷ 0x1FBA ∷ 0x0386 ∷ 0x0391 ∷ 0x1FCA ∷ 0x0389 ∷ 0x0397 ∷ 0x1FFA ∷ 0x038F ∷ 0x03A9 ∷
    0x0046 ∷ 0x0046 ∷ 0x0046 ∷ 0x0046 ∷ 0x0046 ∷ 0x0053 ∷ 0x0053 ∷ 0x0544 ∷ 0x0544 ∷ 0x0544 ∷ 0x054E ∷
    0x0544 ∷ []

-- plane 0, multi rows: the second number of the answer
unfoldable pub multi0_second : List ℕ
multi0_second =
    0x0073 ∷ 0x0582 ∷ 0x0345 ∷ 0x0345 ∷ 0x0342 ∷ 0x0345 ∷ 0x0345 ∷ 0x0342 ∷ 0x0345 ∷ 0x0345 ∷ 0x0342 ∷
    0x0066 ∷ 0x0069 ∷ 0x006C ∷ 0x0066 ∷ 0x0066 ∷ 0x0074 ∷ 0x0074 ∷ 0x0576 ∷ 0x0565 ∷ 0x056B ∷ 0x0576 ∷
    0x056D ∷ []

-- plane 0, multi rows: the third number of the answer, or 0
unfoldable pub multi0_third : List ℕ
multi0_third =
    0x0000 ∷ 0x0000 ∷ 0x0000 ∷ 0x0000 ∷ 0x0345 ∷ 0x0000 ∷ 0x0000 ∷ 0x0345 ∷ 0x0000 ∷ 0x0000 ∷ 0x0345 ∷
    0x0000 ∷ 0x0000 ∷ 0x0000 ∷ 0x0069 ∷ 0x006C ∷ 0x0000 ∷ 0x0000 ∷ 0x0000 ∷ 0x0000 ∷ 0x0000 ∷ 0x0000 ∷
    0x0000 ∷ []

-- plane 0: each page that has rows, with its single rows from the first index to before the second
unfoldable pub pages0 : List ℕ
pages0 =
    0 ∷ 0 ∷ 0 ∷ 1 ∷ 0 ∷ 12 ∷ 5 ∷ 12 ∷ 12 ∷ 16 ∷ 12 ∷ 14 ∷ 31 ∷ 14 ∷ 26 ∷ 251 ∷ 26 ∷ 26 ∷ []

-- plane 1, rows: the first number of each
unfoldable pub starts1 : List ℕ
starts1 =
    []

-- plane 1, rows: the last number of each
unfoldable pub ends1 : List ℕ
ends1 =
    []

-- plane 1, rows: 2 where only numbers of the start's parity are covered, else 1
unfoldable pub steps1 : List ℕ
steps1 =
    []

-- plane 1, rows: what is added to the low 16 bits, wrapping
unfoldable pub deltas1 : List ℕ
deltas1 =
    []

-- plane 1, multi rows: the number mapped
unfoldable pub multi1 : List ℕ
multi1 =
    []

-- plane 1, multi rows: the first number of the answer
unfoldable pub multi1_first : List ℕ
multi1_first =
    []

-- plane 1, multi rows: the second number of the answer
unfoldable pub multi1_second : List ℕ
multi1_second =
    []

-- plane 1, multi rows: the third number of the answer, or 0
unfoldable pub multi1_third : List ℕ
multi1_third =
    []

-- plane 1: each page that has rows, with its single rows from the first index to before the second
unfoldable pub pages1 : List ℕ
pages1 =
    []

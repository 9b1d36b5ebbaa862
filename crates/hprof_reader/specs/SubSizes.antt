-- Sizes of sub-records.
use Rattle.std.specs.Prelude.{ℕ, ◌==◌, Option, Some, None, if◌then◌else◌}
use Rattle.heap_class.specs.declared.IdSize.{IdSize}
use Rattle.heap_class.specs.Kinds.{id_bytes}

-- how many bytes follow the id in a root of this tag: JNI global 01 has another id; JNI local 02, Java frame 03 and thread
-- object 08 have two numbers of 4 bytes; native stack 04 and thread block 06 have one; sticky class 05, monitor used 07 and
-- unknown FF have nothing
abbrev pub root_size : IdSize → ℕ → Option ℕ
root_size ids tag =
    if tag == 0x01 then Some (id_bytes ids)
    else (if tag == 0x02 then Some 8
    else (if tag == 0x03 then Some 8
    else (if tag == 0x04 then Some 4
    else (if tag == 0x05 then Some 0
    else (if tag == 0x06 then Some 4
    else (if tag == 0x07 then Some 0
    else (if tag == 0x08 then Some 8
    else (if tag == 0xff then Some 0 else None))))))))

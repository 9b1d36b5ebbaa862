pub mod LoadedTexts

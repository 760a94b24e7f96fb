mod LeftClasses
